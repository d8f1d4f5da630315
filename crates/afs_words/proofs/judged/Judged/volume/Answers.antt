use Rattle.std.proofs.Common.{◌≡◌, Some, None, ap, sym, ◌∙◌}
use Rattle.afs_commands.specs.Forms.{volume_in}
use Rattle.afs_commands.specs.declared.forms.Form.TheVariants as form
use Rattle.afs_words.specs.declared.tables.Takes.TheVariants.{One}
use Rattle.afs_words.proofs.Inside.{first_kept, volume_holds}
use Rattle.afs_words.proofs.judged.Judged.volume.Goals as goal

pub unreachable-requires : goal.unreachable-requires
unreachable-requires c =
    let kept = first_kept (One form.Volume) volume_in volume_holds c.args.self.now c.args.place c.requires c.in-Some.value.now (rw c.in-Some.is at c.first.ensures) in
    let none : None ≡ volume_in c.in-Some.value.now = rw c.in-None.is at c.volume.ensures in
    let some : volume_in c.in-Some.value.now ≡ Some kept.0 = kept.2 in cc

pub returns : goal.returns
returns c =
    let kept = first_kept (One form.Volume) volume_in volume_holds c.args.self.now c.args.place c.requires c.in-Some.value.now (rw c.in-Some.is at c.first.ensures) in
    let found : Some c.in-Some-volume.volume.now ≡ volume_in c.in-Some.value.now = rw c.in-Some-volume.is at c.volume.ensures in
    let copy : c.in_ok-copied-in-Some-volume.field-0 ≡ c.in-Some-volume.volume.now = c.in_ok-copied-in-Some-volume.ensures in
    ap (λ w. Some w) copy ∙ found ∙ kept.2 ∙ sym kept.1
