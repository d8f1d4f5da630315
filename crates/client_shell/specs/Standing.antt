-- Where a program stands between two of its commands.
use Rattle.std.specs.Prelude.{ℕ, ◌+◌, List, Option}
use Rattle.io_base.specs.declared.links.Exchange.{Exchange}

-- what the link has kept of what was exchanged, what standard output and error have where they tell it, and how often a write to
-- either has failed
pub record Standing : Type 0 where
  pub kept : List Exchange
  pub out : Option (List ℕ)
  pub err : Option (List ℕ)
  pub faults : ℕ

abbrev pub stands : {L K : Type 0} → (L → List Exchange) → (K → Option (List ℕ)) → (K → ℕ) → L → K → K → Standing
stands exchanges written faults link out err =
    record { kept = exchanges link; out = written out; err = written err; faults = faults out + faults err }

-- what a link keeps of what was exchanged before, once a command begins
abbrev pub Begun : Type 0
Begun = List Exchange → List Exchange

-- the same of its parts, where `others` of the faults are those of another sink
abbrev pub standing : List Exchange → Option (List ℕ) → Option (List ℕ) → ℕ → ℕ → Standing
standing kept out err others faults = record { kept = kept; out = out; err = err; faults = others + faults }
