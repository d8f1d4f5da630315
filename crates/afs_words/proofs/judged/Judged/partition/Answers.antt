use Rattle.std.proofs.Common.{Some, ◌∙◌}
use Rattle.afs_commands.specs.Forms.{number_in}
use Rattle.afs_commands.specs.Partitions.{partition_of}
use Rattle.afs_commands.specs.declared.forms.Form.TheVariants as form
use Rattle.afs_words.specs.declared.tables.Takes.TheVariants.{One}
use Rattle.afs_words.proofs.Inside.{first_inside, partition_holds}
use Rattle.afs_words.proofs.judged.Judged.partition.Goals as goal

pub returns : goal.returns
returns c =
    c.number.ensures
    ∙ first_inside (One form.Partition) number_in partition_of partition_holds c.args.self.now c.args.place c.requires (Some c.in_ok-first.field-0.now)
    (rw c.in_ok-first.was at c.first.ensures)
