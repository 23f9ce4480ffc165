-- "Two outcomes allowed by one promise are proved equal", of the calls that are public for another crate alone.
use Rattle.std.specs.Prelude.{◌≡◌, List, ℕ, get_or}
use Rattle.std.proofs.Common.{sym, ap, ◌∙◌}
use Rattle.common.specs.Instructions.{bit}
use Rattle.rules.specs.Laws.CountLaws.{differs, differing}
use Rattle.common.specs.AddressSets as sets
use Rattle.modes.proofs.service_count.Reads as service_count_lem
use Rattle.modes.proofs.is_service.Reads as is_service_lem
use Rattle.modes.proofs.is_service_number.Reads as is-service-number
use Rattle.modes.proofs.first_number.Reads as first_number_lem
use Rattle.arithmetic.proofs.arith.Reads as arith
use Rattle.arithmetic.proofs.branch_target.Reads as branch-target
use Rattle.rights.proofs.is_free.Reads as is_free
use Rattle.rights.proofs.jumped_in.Reads as jumped-in
use Rattle.rights.proofs.may_use.Reads as may-use
use Rattle.rights.proofs.arrival.unasked.Reads as unasked
use Rattle.rights.proofs.arrival.prev_of.Reads as prev-of
use Rattle.rights.proofs.arrival.jumped_of.Reads as jumped-of
use Rattle.rights.proofs.arrival.is_home.Reads as is_home
use Rattle.address_sets.proofs.Pair.contains.Reads as pair-contains
use Rattle.address_sets.proofs.AddressSet.count.Reads as pairs
use Rattle.address_sets.proofs.AddressSet.is_empty.Reads as is_empty
use Rattle.address_sets.proofs.AddressSet.pair.Reads as pair
use Rattle.address_sets.proofs.AddressSet.is_in_order.Reads as is_in_order
use Rattle.address_sets.proofs.AddressSet.contains.Reads as set-contains
use Rattle.address_sets.proofs.clipped.Reads as clipped
use Rattle.reach.proofs.Caller.owns.Reads as owns
use Rattle.reach.proofs.Caller.reaches.Reads as reaches
use Rattle.reach.proofs.Caller.within.Reads as within
use Rattle.reach.proofs.Caller.good.Reads as good
use Rattle.reach.proofs.Call.set.Reads as set
use Rattle.reach.proofs.Call.all_good.Reads as all-good
use Rattle.reach.proofs.Call.all_within.Reads as all-within
use Rattle.reach.proofs.Call.returns.Reads as returns
use Rattle.tags.proofs.own.Reads as own
use Rattle.tags.proofs.join.Reads as join
use Rattle.tags.proofs.join_at.Reads as join-at
use Rattle.tags.proofs.join_services.Reads as join-services
use Rattle.tags.proofs.services_joined.Reads as services-joined
use Rattle.rows.proofs.lose.Reads as lose
use Rattle.rows.proofs.gain.Reads as gain
use Rattle.rows.proofs.settle.Reads as settle
use Rattle.rows.proofs.fill.Reads as fill
use Rattle.rows.proofs.row_at.Reads as row_at
use Rattle.rows.specs.Views.{row_of, table}
use Rattle.memory.proofs.word_at.Reads as word_at
use Rattle.memory.proofs.set_at.Reads as set_at
use Rattle.memory.proofs.put_reg.Reads as put-reg
use Rattle.memory.proofs.put_word.Reads as put_word
use Rattle.form.proofs.same_lengths.Reads as same_lengths_lem
use Rattle.form.proofs.is_formed.Reads as is_formed
use Rattle.claims.specs.Allowed.{Once, same, same_by}

-- modes: service_count, is_service, is_service_number, first_number

pub service_count_once : Once service_count_lem.Post (λ κs r s. r)
service_count_once κs a r q s t = same

pub is_service_once : Once is_service_lem.Post (λ κs r s. r)
is_service_once κs a r q s t = same

pub is_service_number_once : Once is-service-number.Post (λ κs r s. r)
is_service_number_once κs a r q s t = same

pub first_number_once : Once first_number_lem.Post (λ κs r s. r)
first_number_once κs a r q s t = same

-- arithmetic: arith, branch_target

pub arith_once : Once arith.Post (λ κs r s. r)
arith_once κs a r q s t = same

pub branch_target_once : Once branch-target.Post (λ κs r s. r)
branch_target_once κs a r q s t = same

-- rights: is_free, jumped_in, may_use; unasked, prev_of, jumped_of, is_home of an arrival

pub is_free_once : Once is_free.Post (λ κs r s. r)
is_free_once κs a r q s t = same

pub jumped_in_once : Once jumped-in.Post (λ κs r s. r)
jumped_in_once κs a r q s t = same

pub may_use_once : Once may-use.Post (λ κs r s. r)
may_use_once κs a r q s t = same

pub unasked_once : Once unasked.Post (λ κs r s. r)
unasked_once κs a r q s t = same

pub prev_of_once : Once prev-of.Post (λ κs r s. r)
prev_of_once κs a r q s t = same

pub jumped_of_once : Once jumped-of.Post (λ κs r s. r)
jumped_of_once κs a r q s t = same

pub is_home_once : Once is_home.Post (λ κs r s. r)
is_home_once κs a r q s t = same

-- address_sets: Pair::contains; AddressSet::count, is_empty, pair, is_in_order, contains; clipped

pub pair_contains_once : Once pair-contains.Post (λ κs r s. r)
pair_contains_once κs a r q s t = same

pub pairs_once : Once pairs.Post (λ κs r s. r)
pairs_once κs a r q s t = same

pub is_empty_once : Once is_empty.Post (λ κs r s. r)
is_empty_once κs a r q s t = same

pub pair_at_once : Once pair.Post (λ κs r s. r)
pair_at_once κs a r q s t = same_by (λ (p : sets.Pair). record { first = p.first; past = p.past })

pub in_order_once : Once is_in_order.Post (λ κs r s. r)
in_order_once κs a r q s t = same

pub has_once : Once set-contains.Post (λ κs r s. r)
has_once κs a r q s t = same

pub clipped_once : Once clipped.Post (λ κs r s. r)
clipped_once κs a r q s t = same

-- reach: Caller::owns, reaches, within, good; Call::set, all_good, all_within, returns

pub set_once : Once set.Post (λ κs r s. r)
set_once κs a r q s t = same

pub good_once : Once good.Post (λ κs r s. r)
good_once κs a r q s t = same

pub reaches_once : Once reaches.Post (λ κs r s. r)
reaches_once κs a r q s t = same

pub within_once : Once within.Post (λ κs r s. r)
within_once κs a r q s t = same

pub owns_once : Once owns.Post (λ κs r s. r)
owns_once κs a r q s t = same

pub all_good_once : Once all-good.Post (λ κs r s. r)
all_good_once κs a r q s t = same

pub all_within_once : Once all-within.Post (λ κs r s. r)
all_within_once κs a r q s t = same

pub returns_once : Once returns.Post (λ κs r s. r)
returns_once κs a r q s t = same

-- tags: own, join, join_at, with the memory of tags; join_services, services_joined

-- a memory and a count that the memory decides
same_count : (f : List ℕ → ℕ) {x y z : List ℕ} {r q : ℕ} → (x ≡ z) × (r ≡ f x) → (y ≡ z) × (q ≡ f y) → ◌≡◌ {A = ℕ × List ℕ} (r, x) (q, y)
same_count f h k = let e = same h.0 k.0 in let d = h.1 ∙ ap f e ∙ sym k.1 in λ i. (d i, e i)

pub own_once : Once own.Post {Out = ℕ × List ℕ} (λ κs r s. (r, s.0.now))
own_once κs a r q s t = same_count (differing a.1.0 a.0.now)

pub join_once : Once join.Post {Out = ℕ × List ℕ} (λ κs r s. (r, s.0.now))
join_once κs a r q s t = same_count (differing a.1.0 a.0.now)

pub join_at_once : Once join-at.Post {Out = ℕ × List ℕ} (λ κs r s. (r, s.0.now))
join_at_once κs a r q s t = same_count (λ l. bit (differs (get_or a.0.now a.1.0 0) (get_or l a.1.0 0)))

pub services_joined_once : Once services-joined.Post (λ κs r s. r)
services_joined_once κs a r q s t = same

pub join_services_once : Once join-services.Post (λ κs r s. r)
join_services_once κs a r q s t = same

-- rows: lose, gain, settle, fill, with the table; row_at

pub lose_once : Once lose.Post (λ κs r s. table s.0.now)
lose_once κs a r q s t = same

pub gain_once : Once gain.Post (λ κs r s. table s.0.now)
gain_once κs a r q s t = same

pub settle_once : Once settle.Post (λ κs r s. table s.0.now)
settle_once κs a r q s t = same

pub fill_once : Once fill.Post (λ κs r s. table s.0.now)
fill_once κs a r q s t = same

pub row_at_once : Once row_at.Post (λ κs r s. row_of r)
row_at_once κs a r q s t = same

-- memory: word_at, set_at; put_reg, put_word, with the registers and the words

pub word_at_once : Once word_at.Post (λ κs r s. r)
word_at_once κs a r q s t = same

pub set_at_once : Once set_at.Post (λ κs r s. r)
set_at_once κs a r q s t = same

pub put_reg_once : Once put-reg.Post (λ κs r s. s.0.now)
put_reg_once κs a r q s t = same

pub put_word_once : Once put_word.Post (λ κs r s. s.0.now)
put_word_once κs a r q s t = same

-- form: same_lengths, is_formed

pub same_lengths_once : Once same_lengths_lem.Post (λ κs r s. r)
same_lengths_once κs a r q s t = same

pub is_formed_once : Once is_formed.Post (λ κs r s. r)
is_formed_once κs a r q s t = same
