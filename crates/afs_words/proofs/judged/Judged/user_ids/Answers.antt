use Rattle.std.proofs.Common.{◌∙◌}
use Rattle.script_words.specs.Numbers.{signed_of}
use Rattle.afs_commands.specs.Forms.{signed_in}
use Rattle.afs_commands.specs.declared.forms.Form.TheVariants as form
use Rattle.afs_words.specs.declared.tables.Takes.TheVariants.{EachOfFirst}
use Rattle.afs_words.proofs.Inside.{all_filled, all_inside, if_ok, user_ids_fill, user_ids_hold}
use Rattle.afs_words.proofs.judged.Judged.user_ids.Goals as goal

pub numbers-requires : goal.numbers-requires
numbers-requires c = all_filled (EachOfFirst form.UserId) signed_in user_ids_fill c.args.self.now c.args.place c.requires c.read_at.result.now c.read_at.ensures

pub returns : goal.returns
returns c =
    if_ok _ _ c.numbers.result
    (λ list is. is ∙ all_inside (EachOfFirst form.UserId) signed_in signed_of user_ids_hold c.args.self.now c.args.place c.requires c.read_at.result.now c.read_at.ensures)
    c.numbers.ensures
