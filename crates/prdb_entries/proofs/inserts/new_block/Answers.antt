use Rattle.std.proofs.Common.{◌≡◌, replicate, length, refl, sym, ap, ◌∙◌}
use Rattle.db_blocks.specs.Bytes.{zeros}
use Rattle.prdb_layout.specs.RecordEnds.{seen}
use Rattle.prdb_layout.specs.Records.{with_fields}
use Rattle.prdb_entries.proofs.Base.{new_len}
use Rattle.prdb_entries.proofs.inserts.new_block.Goals as goal

blank : replicate 192 0 ≡ zeros 192
unfolding zeros
blank = refl

pub copy_from_slice-requires : goal.copy_from_slice-requires
copy_from_slice-requires c =
    sym (ap length (c.deref.ensures.value ∙ c.in_ok-fields.ensures ∙ ap (with_fields (seen c.args.e.now)) blank)
    ∙ new_len (seen c.args.e.now) c.requires)

pub returns : goal.returns
returns c =
    c.copy_from_slice.ensures.after ∙ c.deref.ensures.value ∙ c.in_ok-fields.ensures ∙ ap (with_fields (seen c.args.e.now)) blank
