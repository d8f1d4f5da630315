use Rattle.std.proofs.Common.{◌∙◌, ap, length, sym}
use Rattle.vldb_entries.proofs.EntryAgain.{length-block}
use Rattle.vldb_entries.proofs.forms.block_of.Goals as goal

pub copy_from_slice-requires : goal.copy_from_slice-requires
copy_from_slice-requires c =
    sym (ap length (c.deref.ensures.value ∙ c.in_ok-fields.ensures) ∙ length-block c.args.addresses.now c.args.e.now c.requires)
