-- A text made in a buffer of its own that has room for it: how long it is, and that its front is the text.
use Rattle.std.specs.Prelude.{◌≡◌, List, ℕ, ◌+◌, ◌≤◌, length, take, replicate}
use Rattle.std.proofs.Common.{sym, arith, length-take-le}
use Rattle.std.proofs.lemmas.List.{length-replicate}
use Rattle.std.proofs.lemmas.List.Edits.{sets}
use Rattle.numerals.specs.Writing.{put}
use Rattle.text.specs.Puts.{put_of, put_whole, put_length}
use Rattle.text.specs.Stores.{front}

module _ (text : List ℕ) (most n : ℕ) (made : List ℕ) (makes : put_of n made ≡ put text 0 (replicate most 0)) (short : length text ≤ most) where
  whole : (n ≡ 0 + length text) × (made ≡ sets (replicate most 0) 0 text)
  whole = let l = length-replicate {A = ℕ} most 0 in put_whole text (replicate most 0) 0 (omega arith) n made makes

  pub made_whole : n ≡ length text
  made_whole = let w : n ≡ 0 + length text = whole.0 in omega arith

  pub made_length : n ≤ length made
  made_length =
      let l = length-replicate {A = ℕ} most 0 in
      let k = put_length text (replicate most 0) 0 n made makes in
      let w = made_whole in
      omega arith

  pub made_count : n ≡ length (take n made)
  made_count = sym (length-take-le n made made_length)

  pub made_text : take n made ≡ text
  made_text = let l = length-replicate {A = ℕ} most 0 in let w = made_whole in front text (replicate most 0) made n w (omega arith) whole.1
