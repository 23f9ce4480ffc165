-- What is listed, by its number: from 3 on it is what may be read.
use Rattle.std.specs.Prelude.{ℕ, zero, suc}
use Rattle.grants.specs.declared.Grant.{Grant}
use Rattle.grants.specs.declared.Grant.TheVariants.{Owns, JumpsTo, StoresTo, Reads}

abbrev pub grant_of : ℕ → Grant
grant_of zero = Owns
grant_of (suc zero) = JumpsTo
grant_of (suc (suc zero)) = StoresTo
grant_of (suc (suc (suc n))) = Reads
