-- A step, from the end of its rule.
use Rattle.std.proofs.Common.{◌≡◌, ◌≢◌, ◌↔◌, ◌⊎◌, ⊎_elim, ℕ, true, false, cond, List, [], IsSome}
use Rattle.std.proofs.Common.{Result, Ok, Err, IfErr, IsErrOf, IsOk, refl, sym, ap, subst, ◌∙◌, arith}
use Rattle.std.proofs.lemmas.Bool.{false≢true}
use Rattle.disk_base.specs.declared.disks.Disk.{Ghosts}
use Rattle.db_image.specs.Standing.{Standing}
use Rattle.ubik_store.specs.declared.faults.StoreFault.{StoreFault}
use Rattle.ubik_store.specs.declared.faults.StoreFault.TheVariants as fault
use Rattle.ubik_store.proofs.Applied.{calls_as}
use Rattle.cell_model.specs.declared.events.NodeEvent.{NodeEvent}
use Rattle.cell_model.specs.declared.events.Output.{Output}
use Rattle.cell_model.specs.Durable.{Durable}
use Rattle.cell_model.specs.Node as model
use Rattle.cell_model.specs.NodeRule.{step_by}
use Rattle.cell_model.specs.Step.{Member, Stepped}
use Rattle.ubik_node.specs.declared.nodes.StepEnd.{StepEnd}
use Rattle.ubik_node.specs.declared.nodes.StepEnd.TheVariants.{Done, Halted, NoMemory}
use Rattle.ubik_node.specs.Choices.{Choices, dbs_of}
use Rattle.ubik_node.specs.Disk.{FailsIn, Serves}
use Rattle.ubik_node.proofs.Endings.{disk_or, fault_is}
use Rattle.ubik_node.proofs.Stepping.{halted_if, up_if}
use Rattle.ubik_node.specs.Node.{CallsSo, Closes, Ends, Held, Makes, StepsFreely, durable_in}

-- the abstract server
abbrev pub node_at : {D : Type 0} → Held D → model.Node
node_at h = cond h.store.failed (model.Halted (model.halted_from h.server)) (model.Up h.server)

module _ {D : Type 0} (g : Ghosts D) (d : Standing) (m : Member) (s : model.Server) (e : NodeEvent) (now : ℕ) (t : Stepped)
    (first mid last : Held D) (before after : List Output) (back : model.Server) (end : StepEnd)
    (up : first.store.failed ≡ false) (choices : Choices d) (step : step_by (dbs_of choices) m s now e choices.short ≡ t)
    (kept : durable_in first.server ≡ durable_in s) where
  pub closed_step : {knows : Type 0} (r : Result (Unit {0}) StoreFault) → Ends g knows t [] before first mid r → knows
      → IfErr r (λ why. why ≢ fault.DiskFault → back ≡ s) → (IsErrOf r fault.DiskFault → model.halted_from back ≡ model.halted_from s)
      → Closes r e back mid last before after end
      → StepsFreely g d m end e now (model.Up s) (node_at last) after first.store.disk last.store.disk
  closed_step (Ok x) ends known returns keeps closed =
      let made = ends.made known in
      let made_for : Makes t (node_at mid) before (Serves g (durable_in s) first.store.disk mid.store.disk) = record {
        server = up_if mid.store.failed (model.halted_from mid.server) mid.server (ends.leaves.runs (λ is. cc)) ∙ ap model.Up (sym made.server);
        outputs = made.outputs;
        disk = subst (λ (b : Durable). Serves g b first.store.disk mid.store.disk t.calls) kept made.disk;
      } in
      rw (closed.0, closed.1, closed.2)
      (choices, subst (λ (u : Stepped). Makes u (node_at mid) before (Serves g (durable_in s) first.store.disk mid.store.disk)) (sym step) made_for)
  closed_step (Err why) ends known returns keeps closed =
      ⊎_elim (λ is.
      let halts = closed.0 is in
      rw (halts.0, halts.1.1, halts.2) (
        halted_if mid.store.failed (model.halted_from halts.1.0) halts.1.0 (ends.leaves.halts (ap Err is)) ∙ ap model.Halted (halts.1.2 ∙ keeps (ap Err is)),
        refl,
        choices,
        subst (λ (u : Stepped). FailsIn g (durable_in s) first.store.disk mid.store.disk u.calls) (sym step)
            (subst (λ (b : Durable). FailsIn g b first.store.disk mid.store.disk t.calls) kept (ends.failed known (ap Err is))),
      ))
      (λ other.
      let rests = closed.1 other in
      rw (rests.0, rests.1, rests.2)
      (up_if mid.store.failed (model.halted_from back) back (ends.leaves.runs (λ is. other (fault_is why is))) ∙ ap model.Up (returns other), refl, (ends.leaves.short other).1)) (disk_or why)

-- what is so of a step, whatever its rule was
pub record IsClosed {D : Type 0} (g : Ghosts D) (first then : Held D) (end : StepEnd) : Type 0 where
  pub told : end ≢ Halted → IsSome (g.files first.store.disk) → IsSome (g.files then.store.disk)
  pub calls : CallsSo g first.store.disk then.store.disk ((end ≡ Halted) × (first.store.failed ≡ false))
  pub halts : (end ≡ Halted) ↔ (then.store.failed ≡ true)
  pub member : then.member ≡ first.member
  pub last : then.last ≡ first.last

module _ {D : Type 0} (g : Ghosts D) (e : NodeEvent) (first mid last : Held D)
    (before after : List Output) (back : model.Server) (end : StepEnd) (up : first.store.failed ≡ false) where
  -- one that did not halt
  goes_on : {t : Stepped} {knows : Type 0} {start : List Output} (r : Result (Unit {0}) StoreFault) (x : StepEnd) (server : model.Server) → x ≢ Halted → ¬ IsErrOf r fault.DiskFault
      → Ends g knows t start before first mid r → IsClosed g first (record mid { server = server }) x
  goes_on r x server went fine ends = record {
    told = λ _. ends.leaves.told fine;
    calls = (ends.leaves.calls.0, calls_as (omega arith) (λ is. absurd (fine is)) (λ is. absurd (went is.0)) ends.leaves.calls.1);
    halts = (λ is. absurd (went is), λ is. absurd (false≢true (sym (ends.leaves.runs fine) ∙ is)));
    member = ends.member;
    last = ends.last;
  }

  pub closed : {t : Stepped} {knows : Type 0} {start : List Output} (r : Result (Unit {0}) StoreFault) → Ends g knows t start before first mid r
      → Closes r e back mid last before after end → IsClosed g first last end
  closed (Ok x) ends closes = rw (closes.0, closes.1) (goes_on (Ok x) Done mid.server (λ is. cc) (λ is. cc) ends)
  closed (Err why) ends closes =
      ⊎_elim (λ is.
      let halts = closes.0 is in
      rw (halts.0, halts.1.1) (record {
        told = λ went. absurd (went refl);
        calls = (ends.leaves.calls.0, calls_as (omega arith) (λ _. (refl, up)) (λ _. ap Err is) ends.leaves.calls.1);
        halts = (λ _. ends.leaves.halts (ap Err is), λ _. refl);
        member = ends.member;
        last = ends.last;
      }))
      (λ other.
      let rests = closes.1 other in
      rw (rests.0, rests.1)
      (goes_on (Err why) NoMemory back (λ is. cc) (λ is. other (fault_is why is)) ends)) (disk_or why)

module _ {D : Type 0} (e : NodeEvent) (mid last : Held D) (before after : List Output) (back : model.Server) (end : StepEnd) where
  pub closed_memory : (r : Result (Unit {0}) StoreFault) → IsErrOf r fault.DiskFault ⊎ IsOk r → Closes r e back mid last before after end
      → end ≢ NoMemory
  closed_memory (Ok x) fine closed short = let done = closed.0 in absurd cc
  closed_memory (Err why) fine closed short = ⊎_elim (λ is. let halted = (closed.0 (fault_is why is)).0 in absurd cc) (λ is. absurd cc) fine

pub err_map : {A : Type 0} (r : Result A StoreFault) (P Q : Type 0) → IfErr r (λ why. why ≢ fault.DiskFault → P) → (P → Q)
    → IfErr r (λ why. why ≢ fault.DiskFault → Q)
err_map (Ok x) P Q so also = tt
err_map (Err e) P Q so also = λ other. also (so other)
