-- Files that a disk tells, and that stay plain.
use Rattle.std.proofs.Common.{◌≡◌, ℕ, Option, Some, None, IfSome, IsSome, IsSomeAnd, List, [], ◌∷◌, refl, sym, subst}
use Rattle.std.proofs.lemmas.Bool.{false≢true}
use Rattle.std.specs.List.{AllByRecursion}
use Rattle.disk_base.specs.declared.disks.Disk.{Ghosts}
use Rattle.disk_base.specs.Crash.{LeavesOnly}
use Rattle.disk_base.specs.Files.{Files}
use Rattle.ubik_types.specs.declared.images.Change.{Change}
use Rattle.ubik_types.specs.declared.images.Change.TheVariants.{Put, Cut}
use Rattle.ubik_store.specs.Gaps.{CutNothingBefore, CutsNoPut, IsPlain}
use Rattle.cell_model.specs.Durable.{Commit, Committed, Durable, DurableCall, Install, Made, Own_relabelling, Reason, Received, Relabel}
use Rattle.flight_laws.specs.Taken.{AllTakePuts, IsPut, TakesPuts}
use Rattle.ubik_node.specs.Disk.{LeavesWithin, TakenCutNoPut, TakenCutsNoPut}

-- ---- what is there

pub some_of : {X : Type 0} (o : Option X) → IsSome o → (x : X) × (o ≡ Some x)
some_of None some = absurd (false≢true some)
some_of (Some x) some = (x, refl)

pub of_some : {X : Type 0} (o : Option X) (x : X) (P : X → Type 0) → o ≡ Some x → IfSome o P → P x
of_some o x P is holds = subst (λ y. IfSome y P) is holds

pub and_some : {X : Type 0} (o : Option X) (x : X) (P : X → Type 0) → o ≡ Some x → IsSomeAnd o P → P x
and_some o x P is holds = subst (λ y. IsSomeAnd y P) is holds

pub make_some : {X : Type 0} (o : Option X) (x : X) (P : X → Type 0) → o ≡ Some x → P x → IsSomeAnd o P
make_some o x P is holds = subst (λ y. IsSomeAnd y P) (sym is) holds

pub make_if : {X : Type 0} (o : Option X) (x : X) (P : X → Type 0) → o ≡ Some x → P x → IfSome o P
make_if o x P is holds = subst (λ y. IfSome y P) (sym is) holds

pub if_more : {X : Type 0} (o : Option X) (P Q : X → Type 0) → ((x : X) → P x → Q x) → IfSome o P → IfSome o Q
if_more None P Q more holds = tt
if_more (Some x) P Q more holds = more x holds

-- puts cut nothing
none_cut : (at : ℕ) (changes : List Change) → AllByRecursion IsPut changes → CutNothingBefore at changes
none_cut at [] puts = tt
none_cut at (Put from bytes ∷ changes) puts = none_cut at changes puts.1
none_cut at (Cut to ∷ changes) puts = absurd puts.0

puts_cut : (changes : List Change) → AllByRecursion IsPut changes → CutsNoPut changes
puts_cut [] puts = tt
puts_cut (Put at bytes ∷ changes) puts = (none_cut at changes puts.1, puts_cut changes puts.1)
puts_cut (Cut to ∷ changes) puts = absurd puts.0

-- where the changes that are taken from another server are puts alone, none of them cut a put
one_cut : (r : Reason) (c : DurableCall) → TakesPuts r c → TakenCutsNoPut r c
one_cut Received (Commit version changes image) puts = puts_cut changes puts
one_cut Received (Relabel version) puts = tt
one_cut Received (Install version image) puts = tt
one_cut Own_relabelling c puts = tt
one_cut (Committed t) c puts = tt

pub taken_cut : (calls : List Made) → AllTakePuts calls → TakenCutNoPut calls
taken_cut [] puts = tt
taken_cut (made ∷ calls) puts = (one_cut made.reason made.call puts.0, taken_cut calls puts.1)

-- plain files stay plain
pub left_plain : {D : Type 0} (g : Ghosts D) (d : Durable) (old new : D) (calls : List Made) (fs later : Files) → g.files old ≡ Some fs
    → IsPlain fs
    → TakenCutNoPut calls → LeavesWithin g d old new calls → g.may_leave new later → IsPlain later
left_plain g d old new calls fs later is plain cuts leaves left =
    let run = of_some (g.files old) fs (λ fs. IsPlain fs → LeavesOnly g.steps g.left_since old new IsPlain) is (leaves.plain cuts) plain in
    run.each later (g.counts_now new (g.steps old) later run.later left)
