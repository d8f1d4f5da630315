use Rattle.afs_commands.specs.Forms.{volume_in}
use Rattle.afs_commands.specs.declared.forms.Form.TheVariants as form
use Rattle.afs_words.specs.declared.tables.Takes.TheVariants.{Many}
use Rattle.afs_words.proofs.Inside.{all_filled, all_words, if_ok, volumes_fill, volumes_hold}
use Rattle.afs_words.proofs.judged.Judged.volumes.Goals as goal

pub volumes-requires : goal.volumes-requires
volumes-requires c = all_filled (Many form.Volume) volume_in volumes_fill c.args.self.now c.args.place c.requires c.read_at.result.now c.read_at.ensures

pub returns : goal.returns
returns c =
    if_ok _ _ c.volumes.result
    (λ list is. all_words (Many form.Volume) volume_in volumes_hold c.args.self.now c.args.place c.requires c.read_at.result.now list.items c.read_at.ensures is)
    c.volumes.ensures
