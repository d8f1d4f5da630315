-- What an act needs of the disk.
use Rattle.std.specs.Prelude.{ℕ, zero, suc}
use Rattle.server_rules.specs.declared.acts.Act.{Act}
use Rattle.server_rules.specs.Acts.{act_need}

-- nothing; that it tells its files where there is another server; that it tells them
abbrev pub needs_at : ℕ → (knows tells : Type 0) → Type 0
needs_at zero knows tells = Unit {0}
needs_at (suc zero) knows tells = knows
needs_at (suc (suc more)) knows tells = tells

abbrev pub ActNeeds : Act → (knows tells : Type 0) → Type 0
ActNeeds act knows tells = needs_at (act_need act) knows tells
