-- A server is the replay of its items, entry by entry.
use Rattle.std.proofs.Common.{Bool, true, false, true≢false, cond, ◌==◌, ◌≡◌, ◌⊎◌, inl, inr, ℕ, ◌+◌, List, [], ◌∷◌, ◌++◌, length, slice_get, refl, sym, ap, subst, ◌∙◌, arith}
use Rattle.std.proofs.lemmas.Bool.Decides.{nat_tests}
use Rattle.std.proofs.lemmas.List.{append-nil}
use Rattle.std.specs.Prelude.{Some, filter_map}
use Rattle.db_image.specs.Database.{Database}
use Rattle.cell_model.specs.declared.events.Output.{Output}
use Rattle.cell_model.specs.Node.{Node, Down, Halted, Up}
use Rattle.cell_model.specs.Step.{Member}
use Rattle.cell_model.specs.World.{World, Site, Event, SiteHappened, Happened, happened_at, happens, member, site_of, asked_after, is_down, seen_of}
use Rattle.journal_model.specs.Asking.{asked_in}
use Rattle.journal_model.specs.Items.{JournalItem}
use Rattle.journal_model.specs.Replay.{item_replayed, replayed}
use Rattle.journal_model.proofs.Asking.{asked-append}
use Rattle.journal_model.proofs.Replaying.{one_more}
use Rattle.journal_model.specs.Schedules.{IsReplay, Life, life_with, output_in}
use Rattle.server_laws.proofs.Events.{Comes, outputs_seen}
use Rattle.server_laws.proofs.Sites.{site_either}

-- ---- a server and its life

replay_of : (db : Database) (m : Member) (life : Life) (node : Node)
    → replayed db m life.opened life.items ≡ record { node = node; outputs = life.outputs } → IsReplay db m life node
replay_of db m life Down is = tt
replay_of db m life (Halted h) is = is
replay_of db m life (Up s) is = is

pub replay_is : (db : Database) (m : Member) (life : Life) (node : Node) → is_down node ≡ false → IsReplay db m life node
    → replayed db m life.opened life.items ≡ record { node = node; outputs = life.outputs }
replay_is db m life Down up is = absurd (true≢false up)
replay_is db m life (Halted h) up is = is
replay_is db m life (Up s) up is = is

-- A server is the replay of its items, and the ids that were asked of it are those in them.
pub record IsLife (db : Database) (m : Member) (life : Life) (site : Site) : Type 0 where
  pub replay : IsReplay db m life site.node
  pub asked : is_down site.node ≡ false → site.asked ≡ asked_in [] life.items

down_is : (db : Database) (m : Member) (life : Life) (site : Site) → site.node ≡ Down → IsLife db m life site
down_is db m life site down = record {
  replay = subst (IsReplay db m life) (sym down) tt;
  asked = λ up. absurd (true≢false (sym (ap is_down down) ∙ up));
}

-- so each server of a world
abbrev pub AllLives : Database → World → (ℕ → Life) → Type 0
AllLives db w lives = (k : ℕ) (site : Site) → site_of w k ≡ Some site → IsLife db (member w k) (lives k) site

-- where it is at a place, or at another one
pub here : {A : Type 0} (k j : ℕ) (x y : A) → j ≡ k → cond (k == j) x y ≡ x
here k j x y same = let is : (k == j) ≡ true = grind (arith, nat_tests) in ap (λ (b : Bool). cond b x y) is

elsewhere : {A : Type 0} (k j : ℕ) (x y : A) → (j ≡ k → ⊥) → cond (k == j) x y ≡ y
elsewhere k j x y other = ap (λ (b : Bool). cond b x y) (by (k == j) refl)
  where
    by : (b : Bool) → (k == j) ≡ b → (k == j) ≡ false
    by true is = absurd (other (grind (arith, nat_tests)))
    by false is = is

-- one server is another one, and its life goes on
pub at_one : (db : Database) (w : World) (k : ℕ) (h : SiteHappened) (lives more : ℕ → Life) → AllLives db w lives
    → IsLife db (member w k) (more k) h.site → AllLives db (happened_at w k h).world (λ j. cond (k == j) (more j) (lives j))
at_one db w k h lives more all one j z there = by (site_either w.sites k j h.site z there)
  where
    by : ((j ≡ k) × (z ≡ h.site)) ⊎ ((j ≡ k → ⊥) × (slice_get w.sites j ≡ Some z))
        → IsLife db (member w j) (cond (k == j) (more j) (lives j)) z
    by (inl p) =
        let node : IsLife db (member w k) (more k) z = subst (IsLife db (member w k) (more k)) (sym p.1) one in
        let place : IsLife db (member w j) (more j) z = subst (λ (i : ℕ). IsLife db (member w i) (more i) z) (sym p.0) node in
        subst (λ (l : Life). IsLife db (member w j) l z) (sym (here k j (more j) (lives j) p.0)) place
    by (inr p) = subst (λ (l : Life). IsLife db (member w j) l z) (sym (elsewhere k j (more j) (lives j) p.0)) (all j z p.1)

-- the lives of the others, and of this one, stay
pub at_down : (db : Database) (w : World) (k : ℕ) (h : SiteHappened) (lives : ℕ → Life) → AllLives db w lives → h.site.node ≡ Down
    → AllLives db (happened_at w k h).world lives
at_down db w k h lives all down j z there = by (site_either w.sites k j h.site z there)
  where
    by : ((j ≡ k) × (z ≡ h.site)) ⊎ ((j ≡ k → ⊥) × (slice_get w.sites j ≡ Some z)) → IsLife db (member w j) (lives j) z
    by (inl p) = down_is db (member w j) (lives j) z (ap (λ (site : Site). site.node) p.1 ∙ down)
    by (inr p) = all j z p.1

-- ---- an item

pub item_goes : (db : Database) (w : World) (k : ℕ) (old : Node) (life : Life) (item : JournalItem) (event : Event)
    (ids : List ℕ) (c : Comes db w k event (item_replayed db (member w k) old item) (asked_after ids item.event)) → is_down old ≡ false
    → ids ≡ asked_in [] life.items → IsReplay db (member w k) life old
    → IsLife db (member w k) (life_with life item (seen_of db w (event ∷ []))) c.happened.site
item_goes db w k old life item event ids c up were is = record {
  replay = replay_of db (member w k) (life_with life item (seen_of db w (event ∷ []))) c.happened.site.node
      (one_more db (member w k) life.opened old life.items life.outputs item (replay_is db (member w k) life old up is)
      ∙ ap (λ (node : Node). record { node = node; outputs = life.outputs ++ (item_replayed db (member w k) old item).outputs }) (sym c.node)
      ∙ ap (λ (outputs : List Output). record { node = c.happened.site.node; outputs = life.outputs ++ outputs }) (sym seen));
  asked = λ still.
      c.asked ∙ ap (λ (asked : List ℕ). asked_after asked item.event) were ∙ sym (asked-append [] life.items item);
}
  where
    seen : filter_map output_in (seen_of db w (event ∷ [])) ≡ (item_replayed db (member w k) old item).outputs
    seen =
        ap (filter_map output_in) (append-nil (happens db w event).seen)
        ∙ ap (λ (h : Happened). filter_map output_in h.seen) c.is
        ∙ outputs_seen k (length w.packets + 1) c.happened.shown c.happened.marks c.silent
        ∙ c.shown
