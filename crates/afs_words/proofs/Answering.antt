-- Answers that are a meaning unless memory ran out.
use Rattle.std.proofs.Common.{◌≡◌, Result, Ok, Err, sym, ap, ◌∙◌}
use Rattle.afs_words.specs.Meaning.{Means, then_ok}
use Rattle.afs_words.specs.declared.faults.WordsFault.{WordsFault}
use Rattle.afs_words.specs.declared.faults.WordsFault.TheVariants.{NoMemory}

-- what was answered well is the meaning
pub means_ok : {A : Type 0} (m : Result A WordsFault) (x : A) → Means m (Ok x) → m ≡ Ok x
means_ok m x means = sym (means (λ same. cc))

-- a fault of a part is one of the whole
pub means_err : {A B : Type 0} (m : Result A WordsFault) (next : A → Result B WordsFault) (fault : WordsFault) →
    Means m (Err fault) → Means (then_ok m next) (Err fault)
means_err m next fault means = λ other.
    let same : Err fault ≡ m = means (λ short. let one : fault ≡ NoMemory = cc in other (ap (λ f. Err f) one)) in
    ap (λ r. then_ok r next) same

pub means_then : {A B : Type 0} (m : Result A WordsFault) (next : A → Result B WordsFault) (x : A) (r : Result B WordsFault) →
    Means m (Ok x) → Means (next x) r → Means (then_ok m next) r
means_then m next x r first means = λ other.
    means other ∙ ap (λ r. then_ok r next) (sym (means_ok m x first))
