-- Waiting packets that are delivered one after the other.
use Rattle.std.proofs.Common.{◌≡◌, inl, inr, ◌<◌, ◌≤◌, ◌+◌, ℕ, zero, suc, Bool, true, false, Option, Some, None, Ok, List, [], ◌∷◌, ◌++◌, length, refl, sym, ap}
use Rattle.std.proofs.Common.{subst, ◌∙◌, arith, append_assoc}
use Rattle.std.specs.List.{AllByRecursion}
use Rattle.std.proofs.lemmas.List.{append-nil}
use Rattle.disk_base.specs.declared.disks.Disk.{Ghosts}
use Rattle.ubik_types.specs.declared.hosts.Host.{Host}
use Rattle.cell_runs.specs.declared.endings.Ending.{Ending}
use Rattle.cell_runs.specs.ScriptDatabase.{ScriptDatabase}
use Rattle.cell_runs.specs.declared.limits.TheConstants.{MAX_PACKETS}
use Rattle.cell_runs.specs.Script.{Cell, Cell_run, Choice, IsHeard, all_delivered, choice_of, delivered, first_choice, first_waiting, hosts_of, joined_run, resting}
use Rattle.cell_runs.specs.Script.{unless_ended}
use Rattle.cell_runs.specs.Trace.{TraceItem, trace, item_text}
use Rattle.cell_sites.specs.declared.cells.OpenCell.{OpenCell}
use Rattle.cell_sites.specs.Counts.{HoldRun}
use Rattle.cell_sites.specs.Disks.{Held, AreRises}
use Rattle.cell_sites.specs.Sites.{IsModelledBy, helds}
use Rattle.cell_sites.specs.Sound.{Bounds, IsSound, IsSteady}
use Rattle.cell_sites.specs.Told.{CellTold, IsShort}
use Rattle.cell_sites.proofs.Opening.{count_append}

-- ---- joining what is told

trace-append : (script_db : ScriptDatabase) (hosts : List Host) (items more : List TraceItem)
    → trace script_db hosts (items ++ more) ≡ trace script_db hosts items ++ trace script_db hosts more
trace-append script_db hosts [] more = refl
trace-append script_db hosts (item ∷ items) more =
    ap (λ (l : List ℕ). item_text script_db hosts item ++ l) (trace-append script_db hosts items more)
    ∙ sym (append_assoc (item_text script_db hosts item) (trace script_db hosts items) (trace script_db hosts more))

pub rises_both : (k : ℕ) (items more : List TraceItem) (a b d : List Held) → AreRises k items a b → AreRises k more b d
    → AreRises k (items ++ more) a d
rises_both k items more [] [] [] first then = tt
rises_both k items more [] [] (z ∷ d) first then = absurd then
rises_both k items more [] (y ∷ b) d first then = absurd first
rises_both k items more (x ∷ a) [] d first then = absurd first
rises_both k items more (x ∷ a) (y ∷ b) [] first then = absurd then
rises_both k items more (x ∷ a) (y ∷ b) (z ∷ d) first then =
    (let n = count_append k items more in omega (arith, n, first.0, then.0), rises_both (k + 1) items more a b d first.1 then.1)

joined : (items more : List TraceItem) (r : Cell_run) → joined_run items (joined_run more r) ≡ joined_run (items ++ more) r
joined items more r = ap (λ (l : List TraceItem). record r { items = l }) (sym (append_assoc items more r.items))

-- choices in which memory was found
heard_append : (a b : List Choice) → AllByRecursion IsHeard a → AllByRecursion IsHeard b → AllByRecursion IsHeard (a ++ b)
heard_append [] b first second = second
heard_append (x ∷ a) b first second = (first.0, heard_append a b first.1 second)

first_heard : (each : List Choice) → AllByRecursion IsHeard each → IsHeard (choice_of each)
first_heard [] all = refl
first_heard (x ∷ each) all = all.0

-- ---- the loop

-- What was delivered so far, so many packets with some choices: what more comes to is that, and then what it comes to from here.
pub record SoFar {D V : Type 0} (g : Ghosts D) (script_db : ScriptDatabase) (given : List ℕ) (most fuel : ℕ) (c : Cell)
    (start now : OpenCell D V g)
    (text_before text : List ℕ) : Type 0 where
  pub cell : Cell
  pub stands : IsModelledBy g script_db.database given now cell
  pub items : List TraceItem
  pub done : List Choice
  pub heard : AllByRecursion IsHeard done
  pub count : ℕ
  pub all : count + fuel ≡ most
  pub is : (rest : ℕ) (more : List Choice)
      → all_delivered script_db (count + rest) c (done ++ more) (first_waiting 1 c.handed) ≡ joined_run items
      (all_delivered script_db rest cell more (first_waiting 1 cell.handed))
  pub told : text ≡ text_before ++ trace script_db start.hosts.items items
  pub causes : AreRises 0 items (helds g start) (helds g now)
  pub hosts : now.hosts.items ≡ start.hosts.items

pub record Follows {D V : Type 0} (g : Ghosts D) (script_db : ScriptDatabase) (most fuel : ℕ) (start now : OpenCell D V g)
    (text_before text : List ℕ) : Type 0 where
  pub runs : (given : List ℕ) (c : Cell) → IsModelledBy g script_db.database given start c
      → SoFar g script_db given most fuel c start now text_before text
  pub sound : (bounds : Bounds) → IsSound g script_db.database bounds start → IsSound g script_db.database bounds now
  pub rises : AreRises 0 [] (helds g start) (helds g now)
  pub same : length now.sites.items ≡ length start.sites.items

no_rise : (k : ℕ) (disks : List Held) → AreRises k [] disks disks
no_rise k [] = tt
no_rise k (disk ∷ disks) = (omega arith, no_rise (k + 1) disks)

pub follows_none : {D V : Type 0} (g : Ghosts D) (script_db : ScriptDatabase) (most fuel : ℕ) (start : OpenCell D V g) (text : List ℕ)
    → fuel ≡ most → Follows g script_db most fuel start start text text
follows_none g script_db most fuel start text same =
    record {
      runs = λ given c stands. record {
        cell = c;
        stands = stands;
        items = [];
        done = [];
        heard = tt;
        count = 0;
        all = omega (arith, same);
        is = λ rest more. let none : 0 + rest ≡ rest = omega arith in
            ap (λ (n : ℕ). joined_run [] (all_delivered script_db n c more (first_waiting 1 c.handed))) none;
        told = sym (append-nil text);
        causes = no_rise 0 (helds g start);
        hosts = refl;
      };
      sound = λ bounds sound. sound;
      rises = no_rise 0 (helds g start);
      same = refl;
    }

-- ---- one more packet

-- with some choice of its step, whatever that told
module _ {D V : Type 0} (g : Ghosts D) (script_db : ScriptDatabase) (given : List ℕ) (most fuel : ℕ) (c : Cell) (start now : OpenCell D V g)
    (tb text : List ℕ) (so : SoFar g script_db given most fuel c start now tb text) (number : ℕ)
    (waits : first_waiting 1 so.cell.handed ≡ Some number) (choice : Choice) (ran : Cell_run)
    (is : delivered script_db so.cell choice number ≡ ran) where
  -- what one more packet comes to
  pub one_more : (rest : ℕ) (more : List Choice)
      → all_delivered script_db (so.count + 1 + rest) c ((so.done ++ choice ∷ []) ++ more) (first_waiting 1 c.handed)
      ≡ joined_run so.items (unless_ended ran ran.ending (all_delivered script_db rest ran.cell more (first_waiting 1 ran.cell.handed)))
  one_more rest more =
      let next : so.count + 1 + rest ≡ so.count + suc rest = omega arith in
      ap (λ (n : ℕ). all_delivered script_db n c ((so.done ++ choice ∷ []) ++ more) (first_waiting 1 c.handed)) next
      ∙ ap (λ (l : List Choice). all_delivered script_db (so.count + suc rest) c l (first_waiting 1 c.handed))
      (append_assoc so.done (choice ∷ []) more)
      ∙ so.is (suc rest) (choice ∷ more)
      ∙ ap (λ (o : Option ℕ). joined_run so.items (all_delivered script_db (suc rest) so.cell (choice ∷ more) o)) waits
      ∙ ap (λ (r : Cell_run). joined_run so.items
      (unless_ended r r.ending (all_delivered script_db rest r.cell more (first_waiting 1 r.cell.handed)))) is

module _ {D V : Type 0} (g : Ghosts D) (script_db : ScriptDatabase) (given : List ℕ) (most fuel : ℕ) (c : Cell)
    (start now later : OpenCell D V g)
    (tb text after : List ℕ) (so : SoFar g script_db given most (suc fuel) c start now tb text) (number : ℕ)
    (waits : first_waiting 1 so.cell.handed ≡ Some number) (ended : Option Ending)
    (told : CellTold g script_db given
    (λ choices. Ok (delivered script_db so.cell (first_choice choices) number)) ended now later text after) where
  came : delivered script_db so.cell (first_choice told.choices) number ≡ told.ran
  came = let e = told.is in cc

  all_told : after ≡ tb ++ trace script_db start.hosts.items (so.items ++ told.ran.items)
  all_told =
      told.told ∙ ap (λ (h : List Host). text ++ trace script_db h told.ran.items) so.hosts
      ∙ ap (λ (l : List ℕ). l ++ trace script_db start.hosts.items told.ran.items) so.told
      ∙ append_assoc tb (trace script_db start.hosts.items so.items) (trace script_db start.hosts.items told.ran.items)
      ∙ ap (λ (l : List ℕ). tb ++ l) (sym (trace-append script_db start.hosts.items so.items told.ran.items))

  -- the script goes on
  pub goes_on : ended ≡ None → IsModelledBy g script_db.database given later told.ran.cell → later.hosts.items ≡ now.hosts.items
      → SoFar g script_db given most fuel c start later tb after
  goes_on none stands hosts =
      record {
        cell = told.ran.cell;
        stands = stands;
        items = so.items ++ told.ran.items;
        done = so.done ++ first_choice told.choices ∷ [];
        heard = heard_append so.done (first_choice told.choices ∷ []) so.heard (first_heard told.choices.each told.whole.found, tt);
        count = so.count + 1;
        all = let all = so.all in omega (arith, all);
        is = λ rest more.
            one_more g script_db given most (suc fuel) c start now tb text so number waits
            (first_choice told.choices) told.ran came rest more
            ∙ ap (λ (e : Option Ending). joined_run so.items (unless_ended told.ran e
            (all_delivered script_db rest told.ran.cell more (first_waiting 1 told.ran.cell.handed)))) (told.ends ∙ none)
            ∙ joined so.items told.ran.items (all_delivered script_db rest told.ran.cell more (first_waiting 1 told.ran.cell.handed));
        told = all_told;
        causes = rises_both 0 so.items told.ran.items (helds g start) (helds g now) (helds g later) so.causes told.causes;
        hosts = hosts ∙ so.hosts;
      }

  -- the script ends in it
  pub ends_there : most ≡ MAX_PACKETS → (ending : Ending) → ended ≡ Some ending
      → HoldRun script_db.database given false told.ran.cell (helds g later)
      → CellTold g script_db given (λ choices. Ok (all_delivered script_db choices.most c choices.each (first_waiting 1 c.handed)))
      (Some ending) start later
      tb after
  ends_there whole ending some hold =
      let all : so.count + 1 + fuel ≡ most = let all = so.all in omega (arith, all) in
      record {
        choices = record { each = (so.done ++ first_choice told.choices ∷ []) ++ []; most = most };
        whole = record {
          most = whole;
          found = heard_append (so.done ++ first_choice told.choices ∷ []) []
              (heard_append so.done (first_choice told.choices ∷ []) so.heard (first_heard told.choices.each told.whole.found, tt)) tt;
        };
        ran = joined_run so.items told.ran;
        is = ap Ok (ap (λ (n : ℕ). all_delivered script_db n c ((so.done ++ first_choice told.choices ∷ []) ++ [])
            (first_waiting 1 c.handed)) (sym all)
            ∙ one_more g script_db given most (suc fuel) c start now tb text so number waits
            (first_choice told.choices) told.ran came fuel []
            ∙ ap (λ (e : Option Ending). joined_run so.items
            (unless_ended told.ran e (all_delivered script_db fuel told.ran.cell [] (first_waiting 1 told.ran.cell.handed))))
            (told.ends ∙ some));
        ends = told.ends ∙ some;
        cell = hold;
        told = all_told;
        causes = rises_both 0 so.items told.ran.items (helds g start) (helds g now) (helds g later) so.causes told.causes;
      }

-- no packet waits any more, or there is no fuel left
pub followed : {D V : Type 0} (g : Ghosts D) (script_db : ScriptDatabase) (given : List ℕ) (most fuel : ℕ) (c : Cell)
    (start now : OpenCell D V g)
    (tb text : List ℕ) (so : SoFar g script_db given most fuel c start now tb text)
    → most ≡ MAX_PACKETS → all_delivered script_db fuel so.cell [] (first_waiting 1 so.cell.handed) ≡ resting so.cell
    → CellTold g script_db given
    (λ choices. Ok (all_delivered script_db choices.most c choices.each (first_waiting 1 c.handed))) None start now tb text
followed g script_db given most fuel c start now tb text so whole rests =
    record {
      choices = record { each = so.done ++ []; most = most };
      whole = record { most = whole; found = heard_append so.done [] so.heard tt };
      ran = joined_run so.items (resting so.cell);
      is = ap Ok (ap (λ (n : ℕ). all_delivered script_db n c (so.done ++ []) (first_waiting 1 c.handed)) (sym so.all)
          ∙ so.is fuel [] ∙ ap (joined_run so.items) rests);
      ends = refl;
      cell = so.stands;
      told = so.told ∙ ap (λ (l : List TraceItem). tb ++ trace script_db start.hosts.items l) (sym (append-nil so.items));
      causes = subst (λ (l : List TraceItem). AreRises 0 l (helds g start) (helds g now)) (sym (append-nil so.items)) so.causes;
    }

pub none_left : (script_db : ScriptDatabase) (fuel : ℕ) (c : Cell) → first_waiting 1 c.handed ≡ None
    → all_delivered script_db fuel c [] (first_waiting 1 c.handed) ≡ resting c
none_left script_db fuel c none = ap (all_delivered script_db fuel c []) none

pub no_fuel : (script_db : ScriptDatabase) (c : Cell) (o : Option ℕ) → all_delivered script_db zero c [] o ≡ resting c
no_fuel script_db c None = refl
no_fuel script_db c (Some number) = refl

IsNone : Option ℕ → Type 0
IsNone None = Unit {0}
IsNone (Some n) = ⊥

-- the number of the packet that waits first is that of a packet
pub is_waiting : (k : ℕ) (handed : List Bool) (number : ℕ) → first_waiting k handed ≡ Some number → (k ≤ number)
    × (number < k + length handed)
unfolding IsNone
is_waiting k [] number waits = let w : None ≡ Some number = waits in absurd (subst IsNone w tt)
is_waiting k (false ∷ handed) number waits =
    let e : k ≡ number = let w : Some k ≡ Some number = waits in cc in (omega (arith, e), omega (arith, e))
is_waiting k (true ∷ handed) number waits =
    let later = is_waiting (k + 1) handed number waits in (omega (arith, later.0), omega (arith, later.1))

-- sound cells of as many servers have the same hosts
pub same_hosts : {D V : Type 0} (g : Ghosts D) (bound other : ℕ) (now later : OpenCell D V g) → IsSteady g bound now
    → IsSteady g other later → length later.sites.items ≡ length now.sites.items → later.hosts.items ≡ now.hosts.items
same_hosts g bound other now later sound sounds same = sounds.hosts ∙ ap hosts_of same ∙ sym sound.hosts

module _ {D V : Type 0} (g : Ghosts D) (script_db : ScriptDatabase) (most n fuel : ℕ) (bounds : Bounds) (start now later : OpenCell D V g)
    (tb text after : List ℕ) (follows : Follows g script_db most n start now tb text) (less : n ≡ suc fuel)
    (sound : IsSound g script_db.database bounds start)
    (number : ℕ) (waits : first_waiting 1 now.packets.handed ≡ Some number) where
  before : (given : List ℕ) (c : Cell) → IsModelledBy g script_db.database given start c
      → SoFar g script_db given most (suc fuel) c start now tb text
  before given c stands = subst (λ (m : ℕ). SoFar g script_db given most m c start now tb text) less (follows.runs given c stands)

  -- one more packet was handed over
  pub follows_more : ((given : List ℕ) (c : Cell) → IsModelledBy g script_db.database given now c
      → CellTold g script_db given (λ choices. Ok (delivered script_db c (first_choice choices) number)) None now later text after)
      → ((b : Bounds) → IsSound g script_db.database b now → IsSound g script_db.database b later)
      → AreRises 0 [] (helds g now) (helds g later)
      → length later.sites.items ≡ length now.sites.items
      → Follows g script_db most fuel start later tb after
  follows_more told sounds rises same =
      record {
        runs = λ given c stands.
            let so = before given c stands in
            let t = told given so.cell so.stands in
            goes_on g script_db given most fuel c start now later tb text after so number
            (ap (first_waiting 1) so.stands.handed ∙ waits) None t refl t.cell
            (same_hosts g bounds.clock bounds.clock now later (follows.sound bounds sound).steady
            (sounds bounds (follows.sound bounds sound)).steady same);
        sound = λ b s. sounds b (follows.sound b s);
        rises = rises_both 0 [] [] (helds g start) (helds g now) (helds g later) follows.rises rises;
        same = same ∙ follows.same;
      }

  -- the next one passes a limit
  pub limit_there : most ≡ MAX_PACKETS → (given : List ℕ) (c : Cell) → IsModelledBy g script_db.database given start c → (ending : Ending)
      → ((d : Cell) → IsModelledBy g script_db.database given now d
      → CellTold g script_db given (λ choices. Ok (delivered script_db d (first_choice choices) number)) (Some ending) now later text after)
      → CellTold g script_db given (λ choices. Ok (all_delivered script_db choices.most c choices.each (first_waiting 1 c.handed)))
      (Some ending) start later
      tb after
  limit_there whole given c stands ending told =
      let so = before given c stands in
      let t = told so.cell so.stands in
      ends_there g script_db given most fuel c start now later tb text after so number (ap (first_waiting 1) so.stands.handed ∙ waits)
      (Some ending) t whole
      ending refl t.cell

-- none waits any more
pub all_followed : {D V : Type 0} (g : Ghosts D) (script_db : ScriptDatabase) (most fuel : ℕ) (start now : OpenCell D V g)
    (tb text : List ℕ) → Follows g script_db most fuel start now tb text
    → most ≡ MAX_PACKETS → first_waiting 1 now.packets.handed ≡ None → (given : List ℕ) (c : Cell)
    → IsModelledBy g script_db.database given start c
    → CellTold g script_db given
    (λ choices. Ok (all_delivered script_db choices.most c choices.each (first_waiting 1 c.handed))) None start now tb text
all_followed g script_db most fuel start now tb text follows whole none given c stands =
    let so = follows.runs given c stands in
    followed g script_db given most fuel c start now tb text so whole
    (none_left script_db fuel so.cell (ap (first_waiting 1) so.stands.handed ∙ none))

-- as many were handed over as a script may send
pub fuel_followed : {D V : Type 0} (g : Ghosts D) (script_db : ScriptDatabase) (most fuel : ℕ) (start now : OpenCell D V g)
    (tb text : List ℕ) → Follows g script_db most fuel start now tb text
    → most ≡ MAX_PACKETS → fuel ≡ zero → (given : List ℕ) (c : Cell) → IsModelledBy g script_db.database given start c
    → CellTold g script_db given
    (λ choices. Ok (all_delivered script_db choices.most c choices.each (first_waiting 1 c.handed))) None start now tb text
fuel_followed g script_db most fuel start now tb text follows whole none given c stands =
    let so = follows.runs given c stands in
    followed g script_db given most fuel c start now tb text so whole
    (ap (λ (m : ℕ). all_delivered script_db m so.cell [] (first_waiting 1 so.cell.handed))
    none
    ∙ no_fuel script_db so.cell (first_waiting 1 so.cell.handed))

-- ---- memory runs out in the next one

-- nothing comes behind a delivery
last_of : (r next : Cell_run) (o : Option Ending) → next ≡ resting r.cell
    → ((unless_ended r o next).cell ≡ r.cell) × ((unless_ended r o next).items ≡ r.items)
last_of r next None is =
    (ap (λ (n : Cell_run). n.cell) is, ap (λ (n : Cell_run). r.items ++ n.items) is ∙ append-nil r.items)
last_of r next (Some ending) is = (refl, refl)

-- The disks hold what the deliveries before it left, or what it left besides.
pub short_there : {D V : Type 0} (g : Ghosts D) (script_db : ScriptDatabase) (most fuel : ℕ) (start now later : OpenCell D V g)
    (tb text : List ℕ) → Follows g script_db most fuel start now tb text → (number : ℕ) → first_waiting 1 now.packets.handed ≡ Some number
    → AreRises 0 [] (helds g now) (helds g later)
    → ((given : List ℕ) (c : Cell) → IsModelledBy g script_db.database given now c
    → IsShort g script_db.database given (λ choices. Ok (delivered script_db c (first_choice choices) number)) c now later)
    → (given : List ℕ) (c : Cell) → IsModelledBy g script_db.database given start c
    → IsShort g script_db.database given
    (λ choices. Ok (all_delivered script_db choices.most c choices.each (first_waiting 1 c.handed))) c start later
short_there {D} {V} g script_db most fuel start now later tb text follows number waits rises short given c stands = by
    (short given so.cell so.stands)
  where
    so : SoFar g script_db given most fuel c start now tb text
    so = follows.runs given c stands

    waits_so : first_waiting 1 so.cell.handed ≡ Some number
    waits_so = ap (first_waiting 1) so.stands.handed ∙ waits

    by : IsShort g script_db.database given (λ choices. Ok (delivered script_db so.cell (first_choice choices) number)) so.cell now later
        → IsShort g script_db.database given
        (λ choices. Ok (all_delivered script_db choices.most c choices.each (first_waiting 1 c.handed))) c start later
    by (inl hold) =
        inr (record {
          choices = record { each = so.done ++ []; most = so.count + 0 };
          ran = joined_run so.items (resting so.cell);
          is = ap Ok (so.is 0 [] ∙ ap (joined_run so.items) (no_fuel script_db so.cell (first_waiting 1 so.cell.handed)));
          disks = hold;
          causes = rises_both 0 so.items [] (helds g start) (helds g now) (helds g later) so.causes rises;
        })
    by (inr s) =
        let choice = first_choice s.choices in
        let came : delivered script_db so.cell choice number ≡ s.ran = let e = s.is in cc in
        let rest = all_delivered script_db 0 s.ran.cell [] (first_waiting 1 s.ran.cell.handed) in
        let last = last_of s.ran rest s.ran.ending (no_fuel script_db s.ran.cell (first_waiting 1 s.ran.cell.handed)) in
        inr (record {
          choices = record { each = (so.done ++ choice ∷ []) ++ []; most = so.count + 1 + 0 };
          ran = joined_run so.items (unless_ended s.ran s.ran.ending rest);
          is = ap Ok (one_more g script_db given most fuel c start now tb text so number waits_so choice s.ran came 0 []);
          disks = subst (λ (x : Cell). HoldRun script_db.database given true x (helds g later)) (sym last.0) s.disks;
          causes = subst (λ (l : List TraceItem). AreRises 0 (so.items ++ l) (helds g start) (helds g later)) (sym last.1)
              (rises_both 0 so.items s.ran.items (helds g start) (helds g now) (helds g later) so.causes s.causes);
        })
