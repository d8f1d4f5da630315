-- What is left of a rule after its decision.
use Rattle.std.proofs.Common.{◌≡◌, ◌≢◌, ◌≤◌, ◌<◌, ◌⊎◌, ◌∙◌, ℕ, zero, suc, List, Result, Ok, Err, IfErr, IsErrOf, IsOk, sym, subst, arith, Option, IsSome}
use Rattle.disk_base.specs.declared.disks.Disk.{Ghosts}
use Rattle.ubik_calls.specs.declared.packets.Body.{Body}
use Rattle.ubik_calls.specs.declared.packets.Body.TheVariants as body
use Rattle.ubik_store.specs.declared.faults.StoreFault.{StoreFault}
use Rattle.ubik_store.specs.declared.faults.StoreFault.TheVariants.{DiskFault}
use Rattle.disk_base.specs.Files.{Files}
use Rattle.cell_model.specs.declared.events.Output.{Output}
use Rattle.cell_model.specs.Durable.{Durable}
use Rattle.cell_model.specs.Node.{Server, halted_from}
use Rattle.cell_model.specs.Step.{Member, Stepped, cell_size}
use Rattle.server_rules.specs.declared.acts.Act.{Act}
use Rattle.server_rules.specs.declared.acts.Act.TheVariants as act
use Rattle.server_rules.specs.Acts.{HasRoom, MayEndShort, MayFail, act_need}
use Rattle.server_rules.specs.Packets.{body_need}
use Rattle.ubik_store.proofs.Telling.{ok_map}
use Rattle.ubik_node.specs.Acts.{ActNeeds, needs_at}
use Rattle.ubik_node.specs.Disk.{FailsIn, Serves}
use Rattle.ubik_node.proofs.Endings.{never_short, ok_not}
use Rattle.std.proofs.lemmas.Bool.{false≢true}
use Rattle.ubik_node.specs.Node.{Ends, Held, IsMade, NeedsFiles, durable_in}

not_both : (r : Result (Unit {0}) StoreFault) {P : Type 0} → IsOk r → IsErrOf r DiskFault → P
not_both (Ok x) went failed = absurd (ok_not x failed)
not_both (Err e) went failed = absurd (false≢true went)

always : (r : Result (Unit {0}) StoreFault) {P : Type 0} → P → IfErr r (λ why. why ≢ DiskFault → P)
always (Ok x) p = tt
always (Err e) p = λ other. p

-- ---- what is needed

module _ (knows tells : Type 0) (less : tells → knows) where
  pub needs_less : (a b : ℕ) → a ≤ b → needs_at b knows tells → needs_at a knows tells
  needs_less zero b few needs = tt
  needs_less (suc zero) zero few needs = absurd (omega (arith, few))
  needs_less (suc zero) (suc zero) few needs = needs
  needs_less (suc zero) (suc (suc b)) few needs = less needs
  needs_less (suc (suc a)) zero few needs = absurd (omega (arith, few))
  needs_less (suc (suc a)) (suc zero) few needs = absurd (omega (arith, few))
  needs_less (suc (suc a)) (suc (suc b)) few needs = needs

  body_needs : (b : Body) → NeedsFiles b tells → needs_at (body_need b) knows tells
  body_needs (body.Beacon start claim ready version) needs = tt
  body_needs (body.Vote start granted) needs = tt
  body_needs (body.GetVersion poll) needs = tt
  body_needs (body.SetVersion poll old new) needs = tt
  body_needs (body.Begin old new pieces len) needs = tt
  body_needs (body.PutPiece new number bytes) needs = tt
  body_needs (body.Abort new) needs = tt
  body_needs other needs = needs

  pub act_needs : (b : Body) (a : Act) → act_need a ≤ body_need b → NeedsFiles b tells → ActNeeds a knows tells
  act_needs b a few needs = needs_less (act_need a) (body_need b) few (body_needs b needs)

-- at another state of the same place
pub needs_there : (files : Option Files) (a : Act) {m k : Member} → m ≡ k → ActNeeds a (1 < cell_size k → IsSome files) (IsSome files)
    → ActNeeds a (1 < cell_size m → IsSome files) (IsSome files)
needs_there files a {m} {k} here needs = subst (λ (x : Member). ActNeeds a (1 < cell_size x → IsSome files) (IsSome files)) (sym here) needs

-- behind a hundred outputs there is room for every act
pub has_room : (a : Act) (outputs : ℕ) → outputs ≤ 100 → HasRoom a outputs
has_room act.Rest outputs few = tt
has_room (act.Send host b) outputs few = omega (arith, few)
has_room (act.Relabel next new) outputs few = omega (arith, few)
has_room other outputs few = few

-- ---- a decision, and then what is left

-- the server after the decision is of the same database and place; where the disk can fail it keeps the same, and where memory can run out it is the same
pub decided_ends : {D : Type 0} (g : Ghosts D) {knows less : Type 0} {t u : Stepped} {before after : List Output} (n : Held D) (s : Server) (place : Member) {m : Held D} (r : Result (Unit {0}) StoreFault) → t ≡ u → (less → knows)
    → durable_in s ≡ durable_in n.server → place ≡ n.member → (IsErrOf r DiskFault → halted_from s ≡ halted_from n.server) → IfErr r (λ why. why ≢ DiskFault → s ≡ n.server)
    → Ends g knows u before after (record n { server = s; member = place }) m r → Ends g less t before after n m r
decided_ends {D} g {knows} {less} {t} {u} {before} {after} n s place {m} r is so same here keeps stays ends = subst (λ (x : Stepped). Ends g less x before after n m r) (sym is) (record {
  made = λ known.
      ok_map r (IsMade g u before after (record n { server = s; member = place }) m) (IsMade g u before after n m) (ends.made (so known)) (λ made.
      record { server = made.server; outputs = made.outputs; disk = subst (λ (d : Durable). Serves g d n.store.disk m.store.disk u.calls) same made.disk });
  failed = λ known failed. subst (λ (d : Durable). FailsIn g d n.store.disk m.store.disk u.calls) same (ends.failed (so known) failed);
  leaves = ends.leaves;
  state = back r ends.state stays;
  keeps = λ failed. ends.keeps failed ∙ keeps failed;
  last = ends.last;
  member = ends.member ∙ here;
})
  where
    back : (r : Result (Unit {0}) StoreFault) → IfErr r (λ why. why ≢ DiskFault → m.server ≡ s) → IfErr r (λ why. why ≢ DiskFault → s ≡ n.server) → IfErr r (λ why. why ≢ DiskFault → m.server ≡ n.server)
    back (Ok x) state stays = tt
    back (Err e) state stays = λ other. state other ∙ stays other

-- ---- what an act can end in

pub fails_so : (a : Act) (r : Result (Unit {0}) StoreFault) (P : Type 0) → (¬ MayFail a → IsOk r) → (MayFail a → P) → IsErrOf r DiskFault → P
fails_so act.Rest r P fine keeps failed = not_both r (fine (λ is. is)) failed
fails_so (act.Send to b) r P fine keeps failed = not_both r (fine (λ is. is)) failed
fails_so other r P fine keeps failed = keeps tt

pub stays_so : (a : Act) (r : Result (Unit {0}) StoreFault) (P : Type 0) → (¬ MayEndShort a → IsErrOf r DiskFault ⊎ IsOk r) → (MayEndShort a → P) → IfErr r (λ why. why ≢ DiskFault → P)
stays_so act.Rest r P fine stays = never_short r P (fine (λ is. is))
stays_so (act.Send to b) r P fine stays = never_short r P (fine (λ is. is))
stays_so act.Settle r P fine stays = never_short r P (fine (λ is. is))
stays_so other r P fine stays = always r (stays tt)
