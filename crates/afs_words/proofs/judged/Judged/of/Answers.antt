use Rattle.std.proofs.Common.{List, Err, subst}
use Rattle.afs_words.specs.Meaning.{Means, judged}
use Rattle.afs_words.specs.declared.faults.WordsFault.TheVariants.{MissingSwitch}
use Rattle.afs_words.specs.declared.values.Slot.{Slot}
use Rattle.afs_words.proofs.Giving.{judged_missing}
use Rattle.afs_words.proofs.judged.Judged.of.Goals as goal

pub returns-in-Some : goal.returns-in-Some
returns-in-Some c =
    subst (λ (slots : List Slot). Means (judged slots) (Err (MissingSwitch c.in-Some.slot.now.parameter.switch))) c.as_slice-slots.ensures
    (judged_missing c.as_slice-slots.result.now c.chosen_count-chosen.result c.in-Some.slot.now c.chosen_count-chosen.ensures c.in-Some.ensures)
