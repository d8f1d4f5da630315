use Rattle.std.proofs.Common.{Some, ◌∙◌, ap}
use Rattle.std.specs.Prelude.{option_map}
use Rattle.afs_commands.specs.Accesses.{access_word}
use Rattle.afs_commands.specs.declared.forms.Form.TheVariants as form
use Rattle.afs_words.specs.declared.tables.Takes.TheVariants.{One}
use Rattle.afs_words.proofs.Inside.{access_holds, access_in_word, first_word}
use Rattle.afs_words.proofs.judged.Judged.access.Goals as goal

pub returns : goal.returns
returns c =
    ap (option_map access_word) c.access.ensures
    ∙ first_word (One form.Access) access_in_word access_holds c.args.self.now c.args.place c.requires (Some c.in_ok-first.field-0.now)
    (rw c.in_ok-first.was at c.first.ensures)
