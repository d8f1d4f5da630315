use Rattle.std.proofs.Common.{◌≡◌, ℕ, Option, Some, Ok, Err, subst, refl}
use Rattle.cell_hosts.specs.Words.{only_hosts}
use Rattle.cell_hosts.specs.declared.faults.HostsFault.TheVariants.{HostsTwice}
use Rattle.cell_hosts.proofs.words.only_hosts.Goals as goal

pub returns-in-None : goal.returns-in-None
returns-in-None c = subst (λ (o : Option ℕ). Ok (Some c.args.hosts) ≡ only_hosts o c.args.hosts) c.in-None.ensures.place refl

pub returns-in-Some : goal.returns-in-Some
returns-in-Some c = subst (λ (o : Option ℕ). Err HostsTwice ≡ only_hosts o c.args.hosts) c.in-Some.ensures.place refl
