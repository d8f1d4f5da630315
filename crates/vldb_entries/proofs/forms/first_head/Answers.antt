use Rattle.std.proofs.Common.{◌≡◌, ap, ◌∙◌, length, refl, rules}
use Rattle.db_blocks.specs.Bytes.{words}
use Rattle.vldb_entries.specs.Location.{first_location}
use Rattle.vldb_entries.specs.Forms.{head_of}
use Rattle.vldb_entries.proofs.HeadRead.{length-head}
use Rattle.vldb_entries.proofs.forms.first_head.Goals as goal

pub returns-clause-len : goal.returns-clause-len
unfolding head_of words
returns-clause-len c =
    let value : c.push_zeros-2.new.out.items ≡ head_of first_location 0 = search rules in
    ap length value ∙ length-head first_location 0 refl
