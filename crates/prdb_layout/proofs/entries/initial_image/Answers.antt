use Rattle.std.proofs.Common.{◌≡◌, ap, ◌∙◌, length, rules}
use Rattle.prdb_layout.specs.State.{initial_state}
use Rattle.prdb_layout.specs.Layout.{layout}
use Rattle.prdb_layout.proofs.Initial.{length-initial}
use Rattle.prdb_layout.proofs.entries.initial_image.Goals as goal

pub returns-clause-len : goal.returns-clause-len
unfolding layout
returns-clause-len c =
    let value : c.push_fixed.new.out.items ≡ layout initial_state = search rules in
    ap length value ∙ length-initial
