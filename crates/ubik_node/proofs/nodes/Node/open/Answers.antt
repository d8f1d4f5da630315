use Rattle.std.proofs.Common.{◌≡◌, ◌≤◌, ◌∙◌, ℕ, List, length, Option, refl, sym, ap, subst, arith}
use Rattle.std.proofs.lemmas.Bool.{false≢true}
use Rattle.ubik_types.specs.declared.limits.TheConstants.{MAX_IMAGE}
use Rattle.ubik_types.specs.declared.versions.Version.{Version}
use Rattle.ubik_votes.specs.Voter.{Voter}
use Rattle.disk_base.specs.Files.{Files}
use Rattle.cell_model.specs.Durable.{durable}
use Rattle.ubik_recovery.specs.Record.{RecoveryRecord, no_recovery}
use Rattle.ubik_store.specs.Files.{StandsFor}
use Rattle.ubik_store.specs.Rest.{RestsAs}
use Rattle.ubik_store.proofs.Telling.{told, of_told}
use Rattle.ubik_node.specs.Disk.{StandsAs}
use Rattle.server_state.specs.Held.{held_image}
use Rattle.ubik_node.proofs.HeldImages.{held_length}
use Rattle.server_state.specs.Recovering.{IsOfCell}
use Rattle.server_state.proofs.Polled.{of_none}
use Rattle.ubik_node.proofs.nodes.Node.open.Goals as goal

-- what the store told
abbrev OpensAs : Version → (len : ℕ) → Option Files → Files → Type 0
OpensAs version len files fs = (image : List ℕ) × StandsFor fs version image × RestsAs version image files × (len ≡ length image)

held_as : (files : Option Files) (version : Version) (len : ℕ) (image bytes : List ℕ) → RestsAs version image files → bytes ≡ held_image files len → bytes ≡ image
held_as files version len image bytes rests held = held ∙ ap (λ (o : Option Files). held_image o len) rests.1 ∙ rests.2.content

stands_held : (files : Option Files) (fs : Files) (version told : Version) (len : ℕ) (bytes : List ℕ) → told ≡ version → OpensAs version len files fs → bytes ≡ held_image files len
    → StandsAs (durable told bytes) fs
stands_held files fs version told len bytes same opens held =
    subst (λ (w : Version). StandsFor fs w bytes) (sym same) (subst (λ (xs : List ℕ). StandsFor fs version xs) (sym (held_as files version len opens.0 bytes opens.2 held)) opens.1)

pub returns-clause-opened : goal.returns-clause-opened
returns-clause-opened g c = (
  durable c.version.result c.of.result,
  rw (c.in_ok-store.ensures.fresh.1, c.in_cell.ensures, c.start.ensures, c.len-servers.ensures.len) refl,
  told (g.D.Disk.files c.args.disk) _ (λ fs is.
      let s = c.in_ok-store.store in
      stands_held (g.D.Disk.files s.disk) fs s.version c.version.result s.len c.of.result c.version.ensures
      (of_told (g.D.Disk.files c.args.disk) fs (OpensAs s.version s.len (g.D.Disk.files s.disk)) is c.in_ok-store.ensures.stands) c.of.ensures),
)

pub invariant_of-state : goal.invariant_of-state
invariant_of-state g c =
    let s = c.in_ok-store.store in
    let opened = c.in_ok-store.ensures in
    record {
      few = omega (arith, c.len-servers.ensures.not_more, c.len-servers.ensures.len);
      place = c.requires.me;
      voters = ap (λ (v : Voter). v.servers) c.start.ensures ∙ c.len-servers.ensures.len;
      voter = ap (λ (v : Voter). v.me) c.start.ensures;
      epoch_fits = omega (arith, opened.sound.version.epoch, ap (λ (v : Version). v.epoch) c.version.ensures);
      counter_fits = omega (arith, opened.sound.version.counter, ap (λ (v : Version). v.counter) c.version.ensures);
      image_fits = subst (λ (k : ℕ). k ≤ MAX_IMAGE) (sym (ap length c.of.ensures ∙ held_length g.D.Disk s (opened.sound.ready opened.fresh.1))) opened.sound.len;
      of_cell = subst (λ (r : RecoveryRecord). IsOfCell (length c.args.cell) r) (sym (c.in_cell.ensures ∙ ap no_recovery c.len-servers.ensures.len)) (of_none (length c.args.cell));
      begun = λ w is. absurd cc;
      serving = λ writes. absurd (false≢true writes);
      line = λ rests. refl;
      written = record { others = λ writes. absurd (false≢true writes); undone = λ w is. absurd cc; plain = λ w is. absurd cc; room = omega arith; alone = λ one. refl };
    }
