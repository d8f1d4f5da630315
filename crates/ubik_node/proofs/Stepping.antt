-- A step of a server.
use Rattle.std.proofs.Common.{◌≡◌, ℕ, Bool, true, false, cond, List, refl, sym, subst}
use Rattle.db_image.specs.Standing.{Standing}
use Rattle.cell_model.specs.declared.events.NodeEvent.{NodeEvent}
use Rattle.cell_model.specs.declared.events.Output.{Output}
use Rattle.cell_model.specs.Node as model
use Rattle.cell_model.specs.Evaluating.{KeepsStates}
use Rattle.cell_model.specs.Step.{Member, Stepped}
use Rattle.cell_model.proofs.MeantSteps.{step_is_meant}
use Rattle.disk_base.specs.declared.disks.Disk.{Ghosts}
use Rattle.ubik_node.specs.Disk.{FailsIn, Serves}
use Rattle.state_laws.proofs.Keeping.{steps_keep_states}
use Rattle.ubik_node.specs.declared.nodes.StepEnd.{StepEnd}
use Rattle.ubik_node.specs.declared.nodes.StepEnd.TheVariants.{Done, Halted, NoMemory}
use Rattle.ubik_node.specs.Node.{BringsStates, HoldsStates, Makes, Steps, StepsFreely, durable_in}

-- a node that is not halted
pub up_if : (b : Bool) (h : model.HaltedServer) (s : model.Server) → b ≡ false → cond b (model.Halted h) (model.Up s) ≡ model.Up s
up_if b h s is = rw is refl

-- and one that is
pub halted_if : (b : Bool) (h : model.HaltedServer) (s : model.Server) → b ≡ true → cond b (model.Halted h) (model.Up s) ≡ model.Halted h
halted_if b h s is = rw is refl

-- Where the images stand for states, a step is the world's.
pub steps_meant : {D : Type 0} (g : Ghosts D) (d : Standing) → KeepsStates d → (m : Member) (end : StepEnd) (e : NodeEvent) (now : ℕ) (before after : model.Node) (out : List Output) (old new : D)
    → HoldsStates d before → StepsFreely g d m end e now before after out old new → Steps g d.database m end e now before after out old new
steps_meant g d keeps m Done e now (model.Up s) after out old new holds steps =
    let o = steps.0 in
    let is = step_is_meant d keeps o.told o.may m s now e o.short holds.0.0 holds.1.0 holds.0.1 holds.1.1 in
    (o.short, subst (λ (t : Stepped). Makes t after out (Serves g (durable_in s) old new)) is steps.1)
steps_meant g d keeps m Halted e now (model.Up s) after out old new holds steps =
    let o = steps.2 in
    let is = step_is_meant d keeps o.told o.may m s now e o.short holds.0.0 holds.1.0 holds.0.1 holds.1.1 in
    (steps.0, steps.1, o.short, subst (λ (t : Stepped). FailsIn g (durable_in s) old new t.calls) is steps.3)
steps_meant g d keeps m end e now before after out old new holds steps = steps

-- So the images after it stand for states, where what it takes over does.
pub steps_keep : {D : Type 0} (g : Ghosts D) (d : Standing) → KeepsStates d → (m : Member) (end : StepEnd) (e : NodeEvent) (now : ℕ) (before after : model.Node) (out : List Output) (old new : D)
    → HoldsStates d before → BringsStates d m before e now → Steps g d.database m end e now before after out old new → HoldsStates d after
steps_keep g d keeps m Done e now (model.Up s) after out old new holds brings steps =
    subst (HoldsStates d) (sym steps.1.server) (steps_keep_states d keeps m s now e steps.0 holds brings)
steps_keep g d keeps m Halted e now (model.Up s) after out old new holds brings steps = subst (HoldsStates d) (sym steps.0) tt
steps_keep g d keeps m NoMemory e now (model.Up s) after out old new holds brings steps = subst (HoldsStates d) (sym steps.0) holds
steps_keep g d keeps m Halted e now (model.Halted h) after out old new holds brings steps = subst (HoldsStates d) (sym steps.0) tt
steps_keep g d keeps m end e now before after out old new holds brings steps = absurd steps
