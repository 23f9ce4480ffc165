-- What was read is filled in: nothing where the image is refused.
use Rattle.std.proofs.Common.{sym, ◌∙◌, ap, ℕ, replicate}
use Rattle.loader.specs.Loading.{fills, front, filled_when_strict, kept_when_not, lengths_differ, image_refused, ready, loads}
use Rattle.rules.specs.Images.{over}
use Rattle.loader.proofs.load.Goals as goal
use Rattle.loader.proofs.load.Goals.{then-strict, else-strict}

pub returns-then-not-same_lengths : goal.returns-then-not-same_lengths
returns-then-not-same_lengths c = lengths_differ c.args.strict c.args.bytes.now c.args.words.now c.args.owners.now c.args.jumpers.now c.args.writers.now c.args.readers.now (sym c.same_lengths.ensures ∙ c.if-not-same_lengths.true) _ c.refused.ensures

pub returns-in-Err : goal.returns-in-Err
returns-in-Err c = image_refused c.args.strict c.args.bytes.now c.args.words.now c.args.owners.now c.args.jumpers.now c.args.writers.now c.args.readers.now (sym c.same_lengths.ensures ∙ c.if-not-same_lengths.false) _ c.in-Err.ensures _ c.refused-in-Err.ensures

pub fill_words-requires : goal.fill_words-requires
fill_words-requires c =
    let r = ready c.args.strict c.args.bytes.now c.args.words.now c.args.owners.now c.args.jumpers.now c.args.writers.now c.args.readers.now (sym c.same_lengths.ensures ∙ c.if-not-same_lengths.false) _ c.in-Ok.ensures in
    (r.in_words, r.in_bytes)

pub slice_bounds-fill-end : goal.slice_bounds-fill-end
slice_bounds-fill-end c = (ready c.args.strict c.args.bytes.now c.args.words.now c.args.owners.now c.args.jumpers.now c.args.writers.now c.args.readers.now (sym c.same_lengths.ensures ∙ c.if-not-same_lengths.false) _ c.in-Ok.ensures).in_owners

pub slice_bounds-fill-end-2 : goal.slice_bounds-fill-end-2
slice_bounds-fill-end-2 c = front _ c.args.owners.now ((ready c.args.strict c.args.bytes.now c.args.words.now c.args.owners.now c.args.jumpers.now c.args.writers.now c.args.readers.now (sym c.same_lengths.ensures ∙ c.if-not-same_lengths.false) _ c.in-Ok.ensures).in_owners)

pub slice_bounds-fill-end-3 : goal.slice_bounds-fill-end-3
slice_bounds-fill-end-3 c = (ready c.args.strict c.args.bytes.now c.args.words.now c.args.owners.now c.args.jumpers.now c.args.writers.now c.args.readers.now (sym c.same_lengths.ensures ∙ c.if-not-same_lengths.false) _ c.in-Ok.ensures).in_jumpers

pub slice_bounds-fill-end-4 : goal.slice_bounds-fill-end-4
slice_bounds-fill-end-4 c = front _ c.args.jumpers.now ((ready c.args.strict c.args.bytes.now c.args.words.now c.args.owners.now c.args.jumpers.now c.args.writers.now c.args.readers.now (sym c.same_lengths.ensures ∙ c.if-not-same_lengths.false) _ c.in-Ok.ensures).in_jumpers)

pub slice_bounds-fill-end-5 : goal.slice_bounds-fill-end-5
slice_bounds-fill-end-5 c = (ready c.args.strict c.args.bytes.now c.args.words.now c.args.owners.now c.args.jumpers.now c.args.writers.now c.args.readers.now (sym c.same_lengths.ensures ∙ c.if-not-same_lengths.false) _ c.in-Ok.ensures).in_writers

pub slice_bounds-fill-end-6 : goal.slice_bounds-fill-end-6
slice_bounds-fill-end-6 c = front _ c.args.writers.now ((ready c.args.strict c.args.bytes.now c.args.words.now c.args.owners.now c.args.jumpers.now c.args.writers.now c.args.readers.now (sym c.same_lengths.ensures ∙ c.if-not-same_lengths.false) _ c.in-Ok.ensures).in_writers)

pub slice_bounds-fill-end-then-strict : goal.slice_bounds-fill-end-then-strict
slice_bounds-fill-end-then-strict c = ((ready c.args.strict c.args.bytes.now c.args.words.now c.args.owners.now c.args.jumpers.now c.args.writers.now c.args.readers.now (sym c.same_lengths.ensures ∙ c.if-not-same_lengths.false) _ c.in-Ok.ensures).in_readers c.if-strict.true)

pub slice_bounds-fill-end-then-strict-2 : goal.slice_bounds-fill-end-then-strict-2
slice_bounds-fill-end-then-strict-2 c = front _ c.args.readers.now ((ready c.args.strict c.args.bytes.now c.args.words.now c.args.owners.now c.args.jumpers.now c.args.writers.now c.args.readers.now (sym c.same_lengths.ensures ∙ c.if-not-same_lengths.false) _ c.in-Ok.ensures).in_readers c.if-strict.true)

pub returns : goal.returns
returns c =
    let agree = sym c.same_lengths.ensures ∙ c.if-not-same_lengths.false in
    let r = ready c.args.strict c.args.bytes.now c.args.words.now c.args.owners.now c.args.jumpers.now c.args.writers.now c.args.readers.now agree _ c.in-Ok.ensures in
    let n = c.in-Ok.image.size in
    loads c.args.strict c.args.bytes.now c.args.words.now c.args.owners.now c.args.jumpers.now c.args.writers.now c.args.readers.now agree _ c.in-Ok.ensures _ _ _ _ _ c.fill_words.ensures
    (fills n 0 c.args.owners.now _ r.in_owners (c.fill.ensures.after (λ y h. h)))
    (fills n _ c.args.jumpers.now _ r.in_jumpers (c.fill-2.ensures.after (λ y h. h)) ∙ ap (λ (one : ℕ). over (replicate n one) c.args.jumpers.now) c.of_services-services.ensures)
    (fills n _ c.args.writers.now _ r.in_writers (c.fill-3.ensures.after (λ y h. h)) ∙ ap (λ (one : ℕ). over (replicate n one) c.args.writers.now) c.none-none.ensures)
    (elim c.if-strict.branch [
      | then-strict w ↦ filled_when_strict _ _ _ _ w.if-strict.true (w.readers-is ∙ fills n _ c.args.readers.now _ (r.in_readers w.if-strict.true) (w.fill-then-strict.ensures.after (λ y h. h)) ∙ ap (λ (one : ℕ). over (replicate n one) c.args.readers.now) c.none-none.ensures)
      | else-strict w ↦ kept_when_not _ _ _ _ w.if-strict.false w.readers-is
    ])
    _ c.fresh.ensures
