use Rattle.afs_commands.specs.Forms.{entry_in}
use Rattle.afs_commands.specs.declared.forms.Form.TheVariants as form
use Rattle.afs_words.specs.declared.tables.Takes.TheVariants.{Many}
use Rattle.afs_words.proofs.Inside.{all_filled, all_words, if_ok, entries_fill, entries_hold}
use Rattle.afs_words.proofs.judged.Judged.entries.Goals as goal

pub entries-requires : goal.entries-requires
entries-requires c = all_filled (Many form.Entry) entry_in entries_fill c.args.self.now c.args.place c.requires c.read_at.result.now c.read_at.ensures

pub returns : goal.returns
returns c =
    if_ok _ _ c.entries.result
    (λ list is. all_words (Many form.Entry) entry_in entries_hold c.args.self.now c.args.place c.requires c.read_at.result.now list.items c.read_at.ensures is)
    c.entries.ensures
