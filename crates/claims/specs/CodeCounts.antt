-- The counts of the code: of every outcome that their contracts allow, by value or for C, over the record and the memories that each is lent.
use Rattle.std.specs.Prelude.{◌≡◌, true, List, [], ℕ, ◌≤◌, ◌<◌}
use Rattle.std.proofs.Common.{sym, ◌∙◌, subst}
use Rattle.paper.specs.Abstract as paper
use Rattle.rules.specs.State.{State}
use Rattle.rules.specs.Laws.Tested.{sized}
use Rattle.rules.specs.Counts.{count_from, owned_count, jump_count, store_count, widest}
use Rattle.rules.proofs.Theorems.Widest.{writing, Met, widest_most, widest_met}
use Rattle.rules.proofs.BothMachines.Match.{Match}
use Rattle.machine.specs.declared.Processor.{Processor}
use Rattle.machine.specs.Views.{processor_of, state_of}
use Rattle.report.specs.Wholes as report
use Rattle.report.specs.Meaning as meaning
use Rattle.report.specs.Meaning.{past}
use Rattle.report.proofs.owned.Reads as owned-of
use Rattle.report.proofs.jumps.Reads as jumps-of
use Rattle.report.proofs.stores.Reads as stores-of
use Rattle.report.proofs.widest.Reads as widest_of
use Rattle.host.proofs.kl_owned.Reads as kl-owned
use Rattle.host.proofs.kl_jumps.Reads as kl-jumps
use Rattle.host.proofs.kl_stores.Reads as kl-stores
use Rattle.host.proofs.kl_widest.Reads as kl-widest
use Rattle.claims.specs.Allowed.{Promise, Allows, allowed}

-- ---- what the contracts say, of the record, the memory and the number; of the widest, the record, the owners and the sets

abbrev owned_in : Processor × List ℕ × ℕ → ℕ
owned_in i = owned_count (state_of i.0 [] i.1 [] [] []) i.2

abbrev jumps_in : Processor × List ℕ × ℕ → ℕ
jumps_in i = jump_count (state_of i.0 [] [] i.1 [] []) i.2

abbrev stores_in : Processor × List ℕ × ℕ → ℕ
stores_in i = store_count (state_of i.0 [] [] [] i.1 []) i.2

abbrev widest_in : Processor × List ℕ × List ℕ → ℕ
widest_in i = widest (state_of i.0 [] i.1 [] i.2 [])

pub record Counts : Type 1 where
  pub Owned : Processor × List ℕ × ℕ → ℕ → Type 0
  pub Jumps : Processor × List ℕ × ℕ → ℕ → Type 0
  pub Stores : Processor × List ℕ × ℕ → ℕ → Type 0
  pub Widest : Processor × List ℕ × List ℕ → ℕ → Type 0
  pub owned : (i : Processor × List ℕ × ℕ) (r : ℕ) → Owned i r → r ≡ owned_in i
  pub jumps : (i : Processor × List ℕ × ℕ) (r : ℕ) → Jumps i r → r ≡ jumps_in i
  pub stores : (i : Processor × List ℕ × ℕ) (r : ℕ) → Stores i r → r ≡ stores_in i
  pub widest : (i : Processor × List ℕ × List ℕ) (r : ℕ) → Widest i r → r ≡ widest_in i

-- ---- by value: report::owned, jumps, stores, widest

abbrev pub by_owned : Promise owned-of.Post (Processor × List ℕ × ℕ) ℕ
by_owned = record { given = λ κs a. (a.0, a.1.0.now, a.1.1.0); left = λ κs r s. r; meant = owned_in; says = λ κs a r s h. h }

abbrev pub by_jumps : Promise jumps-of.Post (Processor × List ℕ × ℕ) ℕ
by_jumps = record { given = λ κs a. (a.0, a.1.0.now, a.1.1.0); left = λ κs r s. r; meant = jumps_in; says = λ κs a r s h. h }

abbrev pub by_stores : Promise stores-of.Post (Processor × List ℕ × ℕ) ℕ
by_stores = record { given = λ κs a. (a.0, a.1.0.now, a.1.1.0); left = λ κs r s. r; meant = stores_in; says = λ κs a r s h. h }

abbrev pub by_widest : Promise widest_of.Post (Processor × List ℕ × List ℕ) ℕ
by_widest = record { given = λ κs a. (a.0, a.1.0.now, a.1.1.0.now); left = λ κs r s. r; meant = widest_in; says = λ κs a r s h. h }

abbrev pub by_value : Counts
by_value =
    record {
      Owned = Allows owned-of.Post by_owned;
      Jumps = Allows jumps-of.Post by_jumps;
      Stores = Allows stores-of.Post by_stores;
      Widest = Allows widest_of.Post by_widest;
      owned = allowed owned-of.Post by_owned;
      jumps = allowed jumps-of.Post by_jumps;
      stores = allowed stores-of.Post by_stores;
      widest = allowed widest_of.Post by_widest;
    }

-- ---- for C: kl_owned, kl_jumps, kl_stores, kl_widest

abbrev pub by_kl_owned : Promise kl-owned.Post (Processor × List ℕ × ℕ) ℕ
by_kl_owned = record { given = λ κs a. (a.0.now, a.1.0.now, a.1.1.0); left = λ κs r s. r; meant = owned_in; says = λ κs a r s h. h }

abbrev pub by_kl_jumps : Promise kl-jumps.Post (Processor × List ℕ × ℕ) ℕ
by_kl_jumps = record { given = λ κs a. (a.0.now, a.1.0.now, a.1.1.0); left = λ κs r s. r; meant = jumps_in; says = λ κs a r s h. h }

abbrev pub by_kl_stores : Promise kl-stores.Post (Processor × List ℕ × ℕ) ℕ
by_kl_stores = record { given = λ κs a. (a.0.now, a.1.0.now, a.1.1.0); left = λ κs r s. r; meant = stores_in; says = λ κs a r s h. h }

abbrev pub by_kl_widest : Promise kl-widest.Post (Processor × List ℕ × List ℕ) ℕ
by_kl_widest = record { given = λ κs a. (a.0.now, a.1.0.now, a.1.1.0.now); left = λ κs r s. r; meant = widest_in; says = λ κs a r s h. h }

abbrev pub for_c : Counts
for_c =
    record {
      Owned = Allows kl-owned.Post by_kl_owned;
      Jumps = Allows kl-jumps.Post by_kl_jumps;
      Stores = Allows kl-stores.Post by_kl_stores;
      Widest = Allows kl-widest.Post by_kl_widest;
      owned = allowed kl-owned.Post by_kl_owned;
      jumps = allowed kl-jumps.Post by_kl_jumps;
      stores = allowed kl-stores.Post by_kl_stores;
      widest = allowed kl-widest.Post by_kl_widest;
    }

-- ---- what they mean, of any state whose sizes pass 14

module _ (code : Counts) (s : State) (ok : sized s ≡ true) where
  abbrev cpu : Processor
  cpu = processor_of s.cpu

  -- they are the rules' counts, and where the state matches one of the abstract machine, the sizes of its sets
  module _ (c : ℕ) (a : paper.State) (m : Match s a) where
    pub owned : (r : ℕ) → code.Owned (cpu, s.owners, c) r → (r ≡ owned_count s c) × (r ≡ count_from (paper.A-of a c) 0 (past s.cpu.strict))
    owned r h =
        let e : r ≡ owned_count s c =
        code.owned (cpu, s.owners, c) r h ∙ sym (report.owned_whole cpu s.owners c s.words s.jumpers s.writers s.readers) in
        (e, e ∙ (meaning.matched s a c ok m).0)

    pub jumps : (r : ℕ) → code.Jumps (cpu, s.jumpers, c) r → (r ≡ jump_count s c) × (r ≡ count_from (paper.J-of a c) 0 (past s.cpu.strict))
    jumps r h =
        let e : r ≡ jump_count s c =
        code.jumps (cpu, s.jumpers, c) r h ∙ sym (report.jumps_whole cpu s.jumpers c s.words s.owners s.writers s.readers) in
        (e, e ∙ (meaning.matched s a c ok m).1)

    pub stores : (r : ℕ) → code.Stores (cpu, s.writers, c) r → (r ≡ store_count s c) × (r ≡ count_from (paper.S-of a c) 0 (past s.cpu.strict))
    stores r h =
        let e : r ≡ store_count s c =
        code.stores (cpu, s.writers, c) r h ∙ sym (report.stores_whole cpu s.writers c s.words s.owners s.jumpers s.readers) in
        (e, e ∙ (meaning.matched s a c ok m).2)

  -- no word below N has more that may store to it, and one has so many
  pub widest_is : (r : ℕ) → code.Widest (cpu, s.owners, s.writers) r → ((x : ℕ) → x < s.cpu.n → writing s x ≤ r) × Met s r
  widest_is r h =
      let e : r ≡ widest s = code.widest (cpu, s.owners, s.writers) r h ∙ sym (report.widest_whole cpu s.writers s.owners s.words s.jumpers s.readers) in
      subst (λ (w : ℕ). ((x : ℕ) → x < s.cpu.n → writing s x ≤ w) × Met s w) (sym e) (widest_most s ok, widest_met s ok)
