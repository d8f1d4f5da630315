-- The disks of a cell hold its run after one more event.
use Rattle.std.proofs.Common.{if◌then◌else◌, ◌≡◌, ◌≢◌, inl, ◌≤◌, ◌+◌, ℕ, zero, suc, Bool, true, false, Option, Some, None, List, [], ◌∷◌, ◌++◌, length, take}
use Rattle.std.proofs.Common.{sum, refl, sym, ap, subst, ◌∙◌, arith}
use Rattle.std.specs.Prelude.{fold}
use Rattle.std.proofs.lemmas.Bool.{eq-eqb, ne_eqb}
use Rattle.db_image.specs.Database.{Database}
use Rattle.ubik_types.specs.declared.hosts.Host.{Host}
use Rattle.ubik_types.specs.declared.versions.Version.{Version}
use Rattle.cell_model.specs.Durable.{Made, version_after}
use Rattle.cell_model.specs.World.{Site as ModelSite, World, Event, calls_on, entries_from}
use Rattle.cell_model.specs.World.{first_world, happens, site_of, world_after}
use Rattle.cell_places.proofs.Hosts.{hosts_stay}
use Rattle.cell_runs.specs.Script.{Cell, Opening, calls_on_all, first_of}
use Rattle.cell_sites.specs.Counts.{AreCountsFrom, HoldRun, IsCountOf, IsCutShort, IsRiseIn, IsRiseOver, IsSurplus, calls_of}
use Rattle.cell_sites.specs.Disks.{AreReadBy, Held}

-- ---- the world after one more event

world_more : (db : Database) (w : World) (events : List Event) (e : Event)
    → world_after db w (events ++ e ∷ []) ≡ (happens db (world_after db w events) e).world
world_more db w [] e = refl
world_more db w (x ∷ events) e = world_more db (happens db w x).world events e

rise_more : (db : Database) (w : World) (events : List Event) (e : Event) (k rise more : ℕ) → IsRiseOver db w events k rise
    → IsRiseIn db (world_after db w events) e k more → IsRiseOver db w (events ++ e ∷ []) k (rise + more)
rise_more db w [] e k rise more over last = (more, 0, last, refl, omega (arith, over))
rise_more db w (x ∷ events) e k rise more over last =
    let rest = rise_more db (happens db w x).world events e k over.1 more over.3 last in
    let is = over.4 in
    (over.0, over.1 + more, over.2, rest, omega (arith, is))

-- ---- counts, one after the other

-- so of each of these disks and what it became, from server k on
abbrev pub AreMoved : (ℕ → Held → Held → Type 0) → ℕ → List Held → List Held → Type 0
AreMoved R k [] [] = Unit {0}
AreMoved R k (x ∷ xs) (y ∷ ys) = R k x y × AreMoved R (k + 1) xs ys
AreMoved R k _ _ = ⊥

pub moved_same : (R : ℕ → Held → Held → Type 0) (k : ℕ) (xs : List Held) → ((j : ℕ) (x : Held) → R j x x) → AreMoved R k xs xs
moved_same R k [] each = tt
moved_same R k (x ∷ xs) each = (each k x, moved_same R (k + 1) xs each)

pub moved_as : (R S : ℕ → Held → Held → Type 0) (k : ℕ) (xs ys : List Held) → ((j : ℕ) (x y : Held) → R j x y → S j x y)
    → AreMoved R k xs ys
    → AreMoved S k xs ys
moved_as R S k [] [] goes moved = tt
moved_as R S k [] (y ∷ ys) goes moved = absurd moved
moved_as R S k (x ∷ xs) [] goes moved = absurd moved
moved_as R S k (x ∷ xs) (y ∷ ys) goes moved = (goes k x y moved.0, moved_as R S (k + 1) xs ys goes moved.1)

-- a count of one cell becomes one of another
abbrev CountGoes : Database → (c d : Cell) → (short later : Bool) → ℕ → Held → Held → Type 0
CountGoes db c d short later k x y =
    (failed : Bool) (before : ℕ) → IsCountOf db c short k failed before x.steps → IsCountOf db d later k failed before y.steps

counts_moved : (db : Database) (c d : Cell) (short later : Bool) (k : ℕ) (failed : List Bool) (given : List ℕ) (xs ys : List Held)
    → AreMoved (CountGoes db c d short later) k xs ys → AreCountsFrom db c short k failed given xs
    → AreCountsFrom db d later k failed given ys
counts_moved db c d short later k [] [] [] [] moved counts = tt
counts_moved db c d short later k [] [] [] (y ∷ ys) moved counts = absurd moved
counts_moved db c d short later k [] [] (x ∷ xs) ys moved counts = absurd counts
counts_moved db c d short later k [] (b ∷ given) xs ys moved counts = absurd counts
counts_moved db c d short later k (f ∷ failed) [] xs ys moved counts = absurd counts
counts_moved db c d short later k (f ∷ failed) (b ∷ given) [] ys moved counts = absurd counts
counts_moved db c d short later k (f ∷ failed) (b ∷ given) (x ∷ xs) [] moved counts = absurd moved
counts_moved db c d short later k (f ∷ failed) (b ∷ given) (x ∷ xs) (y ∷ ys) moved counts = (
  moved.0 f b counts.0,
  counts_moved db c d short later (k + 1) failed given xs ys moved.1 counts.1,
)

-- a cell that went on by some events
pub record GoesOn (db : Database) (c d : Cell) (more : List Event) : Type 0 where
  pub opening : d.opening ≡ c.opening
  pub events : d.events ≡ c.events ++ more
  pub world : d.run.world ≡ world_after db c.run.world more

first_still : (c d : Cell) → d.opening ≡ c.opening → d.run.world.hosts ≡ c.run.world.hosts → first_of d ≡ first_of c
first_still c d opening hosts =
    ap (λ (h : List Host). first_world h d.opening.clock d.opening.failed) hosts
    ∙ ap (λ (o : Opening). first_world c.run.world.hosts o.clock o.failed) opening

module _ (db : Database) (c d : Cell) (given : List ℕ) where
  -- ---- one more event

  module _ (e : Event) (goes : GoesOn db c d (e ∷ [])) (xs ys : List Held) (hold : HoldRun db given false c xs) where
    first : first_of d ≡ first_of c
    first = first_still c d goes.opening (ap (λ (w : World). w.hosts) goes.world ∙ hosts_stay db c.run.world e)

    -- by how much the count of a server rises in the event
    abbrev pub Rises : ℕ → Held → Held → Type 0
    Rises k x y = (more : ℕ) × IsRiseIn db c.run.world e k more × (y.steps ≡ x.steps + more)

    count : (k : ℕ) (x y : Held) → Rises k x y → CountGoes db c d false false k x y
    count k x y (more, last, is) = λ failed before counted.
        let over = subst (λ (w : World). IsRiseIn db w e k more) hold.world last in
        let rises = rise_more db (first_of c) c.events e k counted.rise more counted.rises over in
        record {
          opening = counted.opening;
          opens = counted.opens;
          rise = counted.rise + more;
          rises = subst (λ (w : World). IsRiseOver db w d.events k (counted.rise + more)) (sym first)
              (subst (λ (l : List Event). IsRiseOver db (first_of c) l k (counted.rise + more)) (sym goes.events) rises);
          surplus = 0;
          over = refl;
          is = let was = counted.is in let none = counted.over in omega (arith, is, was, none);
        }

    pub hold_more : AreReadBy d.run.world.sites ys → AreMoved Rises 0 xs ys → HoldRun db given false d ys
    hold_more read moved =
        record {
          world =
              goes.world ∙ ap (λ (w : World). (happens db w e).world) hold.world
              ∙ sym (world_more db (first_of c) c.events e)
              ∙ ap (λ (l : List Event). world_after db (first_of c) l) (sym goes.events)
              ∙ ap (λ (w : World). world_after db w d.events) (sym first);
          read = read;
          counts =
              subst (λ (o : Opening). AreCountsFrom db d false 0 o.failed given ys) (sym goes.opening)
              (counts_moved db c d false false 0 c.opening.failed given xs ys
              (moved_as Rises (CountGoes db c d false false) 0 xs ys count moved) hold.counts);
        }

  -- ---- no event

  module _ (same : GoesOn db c d []) (short later : Bool) (xs ys : List Held) (hold : HoldRun db given short c xs) where
    none_more : (events : List Event) → events ++ [] ≡ events
    none_more [] = refl
    none_more (x ∷ events) = ap (λ (l : List Event). x ∷ l) (none_more events)

    still : first_of d ≡ first_of c
    still = first_still c d same.opening (ap (λ (w : World). w.hosts) same.world)

    events_still : d.events ≡ c.events
    events_still = same.events ∙ none_more c.events

    -- a count that goes on by this surplus
    abbrev pub Adds : ℕ → Held → Held → Type 0
    Adds k x y =
        (surplus : ℕ) × ((was : ℕ) → IsSurplus short (site_of c.run.world k) was
        → IsSurplus later (site_of c.run.world k) (was + surplus)) ×
        (y.steps ≡ x.steps + surplus)

    added : (k : ℕ) (x y : Held) → Adds k x y → CountGoes db c d short later k x y
    added k x y (surplus, over, is) = λ failed before counted.
        record {
          opening = counted.opening;
          opens = counted.opens;
          rise = counted.rise;
          rises = subst (λ (w : World). IsRiseOver db w d.events k counted.rise) (sym still)
              (subst (λ (l : List Event). IsRiseOver db (first_of c) l k counted.rise) (sym events_still) counted.rises);
          surplus = counted.surplus + surplus;
          over = subst (λ (w : World). IsSurplus later (site_of w k) (counted.surplus + surplus)) (sym same.world)
              (over counted.surplus counted.over);
          is = let was = counted.is in omega (arith, is, was);
        }

    pub hold_added : AreReadBy d.run.world.sites ys → AreMoved Adds 0 xs ys → HoldRun db given later d ys
    hold_added read moved =
        record {
          world =
              same.world ∙ hold.world
              ∙ ap (λ (l : List Event). world_after db (first_of c) l) (sym events_still)
              ∙ ap (λ (w : World). world_after db w d.events) (sym still);
          read = read;
          counts =
              subst (λ (o : Opening). AreCountsFrom db d later 0 o.failed given ys) (sym same.opening)
              (counts_moved db c d short later 0 c.opening.failed given xs ys
              (moved_as Adds (CountGoes db c d short later) 0 xs ys added moved) hold.counts);
        }

-- nothing was added
pub nothing_added : (o : Option ModelSite) (short : Bool) (was : ℕ) → IsSurplus short o was → IsSurplus short o (was + 0)
nothing_added o short was is = let P : ℕ → Type 0 = λ n. IsSurplus short o n in let same : was ≡ was + 0 = omega arith in subst P same is

-- where memory ran out, no more may have been begun
pub no_surplus : (o : Option ModelSite) (was : ℕ) → IsSurplus false o was → IsSurplus true o (was + 0)
no_surplus o was is = inl (omega (arith, is))

-- ---- the same run

no_events : (events : List Event) → events ++ [] ≡ events
no_events [] = refl
no_events (x ∷ events) = ap (λ (l : List Event). x ∷ l) (no_events events)

-- no event, where the run is the same
pub same_run : {db : Database} (c d : Cell) → d.opening ≡ c.opening → d.events ≡ c.events → d.run.world ≡ c.run.world → GoesOn db c d []
same_run c d opening events world = record { opening = opening; events = events ∙ sym (no_events c.events); world = world }

-- another cell with the same run
pub hold_as : (db : Database) (c d : Cell) (given : List ℕ) (short : Bool) (xs : List Held) → GoesOn db c d [] → HoldRun db given short c xs
    → HoldRun db given short d xs
hold_as db c d given short xs same hold =
    hold_added db c d given same short short xs xs hold (subst (λ (w : World). AreReadBy w.sites xs) (sym same.world) hold.read)
    (moved_same _ 0 xs (λ j x. (0, (λ was is. nothing_added (site_of c.run.world j) short was is), omega arith)))

-- the same disks as far as a run holds them
pub hold_still : (db : Database) (c : Cell) (given : List ℕ) (xs ys : List Held) → AreReadBy c.run.world.sites ys
    → AreMoved (λ k x y. y.steps ≡ x.steps) 0 xs ys → HoldRun db given false c xs → HoldRun db given false c ys
hold_still db c given xs ys read moved hold =
    hold_added db c c given (same_run c c refl refl refl) false false xs ys hold read
    (moved_as (λ k x y. y.steps ≡ x.steps) _ 0 xs ys
    (λ j x y is. (0, (λ was over. nothing_added (site_of c.run.world j) false was over), omega (arith, is)))
    moved)

pub hold_short : (db : Database) (c : Cell) (given : List ℕ) (xs : List Held) → HoldRun db given false c xs → HoldRun db given true c xs
hold_short db c given xs hold =
    hold_added db c c given (same_run c c refl refl refl) false true xs xs hold hold.read
    (moved_same _ 0 xs (λ j x. (0, (λ was over. no_surplus (site_of c.run.world j) was over), omega arith)))

-- ---- durable calls

-- how many changing calls each of these makes, from a version on
abbrev pub each_on : Version → List Made → List ℕ
each_on v [] = []
each_on v (made ∷ calls) = calls_on v made ∷ each_on (version_after made.call) calls

pub calls_own : (k : ℕ) (v : Version) (calls : List Made) → calls_of k (entries_from k v calls) ≡ each_on v calls
calls_own k v [] = refl
calls_own k v (made ∷ calls) =
    let rest = calls_of k (entries_from k (version_after made.call) calls) in
    ap (λ (b : Bool). if b then calls_on v made ∷ rest else rest) (eq-eqb k k refl)
    ∙ ap (λ (l : List ℕ). calls_on v made ∷ l) (calls_own k (version_after made.call) calls)

pub calls_other : (j k : ℕ) (v : Version) (calls : List Made) → j ≢ k → calls_of j (entries_from k v calls) ≡ []
calls_other j k v [] other = refl
calls_other j k v (made ∷ calls) other =
    let rest = calls_of j (entries_from k (version_after made.call) calls) in
    ap (λ (b : Bool). if b then calls_on v made ∷ rest else rest) (ne_eqb k j (λ e. other (sym e)))
    ∙ calls_other j k (version_after made.call) calls other

sum_from : (a : ℕ) (xs : List ℕ) → fold ◌+◌ a xs ≡ a + fold ◌+◌ 0 xs
sum_from a [] = omega arith
sum_from a (x ∷ xs) = let one = sum_from (a + x) xs in let other = sum_from (0 + x) xs in omega (arith, one, other)

pub sum_cons : (x : ℕ) (xs : List ℕ) → sum (x ∷ xs) ≡ x + sum xs
sum_cons x xs = let one = sum_from (0 + x) xs in omega (arith, one)

pub sum_on : (v : Version) (calls : List Made) → sum (each_on v calls) ≡ calls_on_all v calls
sum_on v [] = refl
sum_on v (made ∷ calls) =
    sum_cons (calls_on v made) (each_on (version_after made.call) calls)
    ∙ ap (λ (n : ℕ). calls_on v made + n) (sum_on (version_after made.call) calls)

-- a server that made none
pub none_cut : (calls : List ℕ) (made : ℕ) → calls ≡ [] → IsCutShort calls made 0
none_cut calls made none =
    subst (λ (l : List ℕ). IsCutShort l made 0) (sym none)
    (record { whole = made; not_more = omega arith; next = omega arith; least = none_of made; most = omega arith })
  where
    none_of : (n : ℕ) → sum (take n []) ≤ 0
    none_of zero = omega arith
    none_of (suc n) = omega arith
