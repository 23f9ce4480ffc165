-- The measure of a call is 4 for each bracket that may still be opened, and 3, 2, 1, 0 for expression, first, product, factor.
-- Each loop: what was read so far comes to the whole.
use Rattle.std.proofs.Common.{◌+◌, ◌-◌, ◌*◌, length, Ok}
use Rattle.labels.specs.Locating.{located}
use Rattle.expressions.specs.Turns.{ProductComes, SumComes}
use Rattle.expressions.specs.Readers.{product_at, expression_at}
use Rattle.expressions.proofs.Line.+expression_factor_first_product.Given as goal

abbrev pub decreases-expression : goal.decreases-expression
decreases-expression l = 4 * l.depth + 3

abbrev pub decreases-factor : goal.decreases-factor
decreases-factor l = 4 * l.depth

abbrev pub decreases-first : goal.decreases-first
decreases-first l = 4 * l.depth + 2

abbrev pub decreases-product : goal.decreases-product
decreases-product l = 4 * l.depth + 1

abbrev pub invariant-expression-loop-t : goal.invariant-expression-loop-t
invariant-expression-loop-t l =
    let s = l.self.labels in
    let labels = located s.text.now s.table.now s.complete in
    SumComes s.text.now labels l.self.dot l.depth (Ok l.read) (expression_at s.text.now labels l.self.dot l.depth l.at)

abbrev pub decreases-expression-loop-t : goal.decreases-expression-loop-t
decreases-expression-loop-t l = length l.self.labels.text.now - l.read.next

abbrev pub invariant-product-loop-t : goal.invariant-product-loop-t
invariant-product-loop-t l =
    let s = l.self.labels in
    let labels = located s.text.now s.table.now s.complete in
    ProductComes s.text.now labels l.self.dot l.depth (Ok l.read) (product_at s.text.now labels l.self.dot l.depth l.at)

abbrev pub decreases-product-loop-t : goal.decreases-product-loop-t
decreases-product-loop-t l = length l.self.labels.text.now - l.read.next
