-- The moments of a run stay those of its clock.
use Rattle.std.proofs.Common.{◌≡◌, ◌⊎◌, inl, inr, ℕ, ◌+◌, ◌<◌, ◌≤◌, List, [], ◌∷◌, ◌++◌, get_or, length, max, refl, ap, sym, ◌∙◌, subst, arith}
use Rattle.std.specs.Prelude.{slice_index}
use Rattle.std.proofs.lemmas.Bool.{cases_lt}
use Rattle.std.proofs.lemmas.List.{get_or_append_left, get_or_at, length-append, length-map, map-append}
use Rattle.std.proofs.lemmas.List.Elements.{All-push}
use Rattle.disk_base.specs.declared.disks.Disk.{Ghosts}
use Rattle.db_image.specs.Standing.{Standing}
use Rattle.cell_model.specs.declared.events.NodeEvent.{NodeEvent}
use Rattle.cell_model.specs.declared.events.Output.{Output}
use Rattle.io_base.specs.Clock.{NeverFalls}
use Rattle.ubik_node.specs.declared.nodes.StepEnd.TheVariants as step
use Rattle.server_rounds.specs.Clock.{IsOfClock}
use Rattle.server_rounds.specs.declared.sendings.Sending.{Sending}
use Rattle.server_rounds.specs.declared.turns.TurnEnd.{TurnEnd}
use Rattle.server_rounds.specs.declared.turns.TurnEnd.TheVariants as end
use Rattle.server_journal.specs.Items.{item_of}
use Rattle.server_journal.specs.declared.counts.Limits.{Limits}
use Rattle.server_journal.specs.declared.items.JournalItem.{JournalItem}
use Rattle.server_station.specs.declared.askers.Asker.{Asker}
use Rattle.server_station.specs.Recording.{IsRecorded, IsRefused}
use Rattle.server_station.specs.Turns.{Act, Makes, Rests, Seen, Tells, Turned, TurnsBy}
use Rattle.node_server.specs.Moments.{AreTimed, moments_of}

-- A turn at a moment: no step was made, and the last moment is as before; or one was made at this moment, which is then the last one.
abbrev pub GoesBy : {D V : Type 0} {g : Ghosts D} → (now : ℕ) → (before after : Seen D V g) → Type 0
GoesBy now before after =
    ((after.items ≡ before.items) × (after.node.last ≡ before.node.last))
    ⊎ ((item : JournalItem) × (after.items ≡ before.items ++ item ∷ []) × (item.now ≡ now) × (after.node.last ≡ now))

rests : {D V : Type 0} {g : Ghosts D} (now : ℕ) (before after : Seen D V g) → after.node ≡ before.node → after.items ≡ before.items
    → GoesBy now before after
rests now before after node items = inl (items, ap (λ n. n.last) node)

refused : {D V : Type 0} (g : Ghosts D) (d : Standing) (event : NodeEvent) (now : ℕ) (before after : Seen D V g) (out : List Output)
    → IsRefused g d event now before.node after.node before.items after.items out → GoesBy now before after
refused g d event now before after out is =
    elim is.node [
      | inl same ↦ rests now before after same is.items
      | inr made ↦ inl (is.items, made.last)
    ]

done : {D V : Type 0} (g : Ghosts D) (d : Standing) (event : NodeEvent) (now : ℕ) (before after : Seen D V g) (out : List Output)
    → IsRecorded g d step.Done event now before.node after.node before.items after.items out → GoesBy now before after
done g d event now before after out is = inr (item_of now event out after.node.store.failed, is.item, refl, is.step.last)

halted : {D V : Type 0} (g : Ghosts D) (d : Standing) (event : NodeEvent) (now : ℕ) (before after : Seen D V g) (out : List Output)
    → IsRecorded g d step.Halted event now before.node after.node before.items after.items out → GoesBy now before after
halted g d event now before after out is = inr (item_of now event out after.node.store.failed, is.item, refl, is.step.last)

makes : {D V : Type 0} (g : Ghosts D) (d : Standing) (limits : Limits) (event : NodeEvent) (asker : List Asker) (now : ℕ)
    (before after : Seen D V g) (sent : List Sending) (e : TurnEnd)
    → TurnsBy g d limits event asker now before after sent e → GoesBy now before after
makes g d limits event asker now before after sent end.Done turned = done g d event now before after turned.0 turned.1.1
makes g d limits event asker now before after sent end.Halted turned = halted g d event now before after turned.0 turned.1.1
makes g d limits event asker now before after sent end.Cut turned =
    elim turned.1 [
      | inl made ↦ done g d event now before after turned.0 made.1
      | inr made ↦ halted g d event now before after turned.0 made.1
    ]
makes g d limits event asker now before after sent (end.JournalFull entries bytes) turned = rests now before after turned.0.3 turned.0.4
makes g d limits event asker now before after sent end.NoMemory turned = refused g d event now before after [] turned.0

same : {D V : Type 0} {g : Ghosts D} (now : ℕ) (before after : Seen D V g) → after ≡ before → GoesBy now before after
same now before after is = rests now before after (ap (λ s. s.node) is) (ap (λ s. s.items) is)

-- each turn goes by its moment
pub goes_by : {D V : Type 0} (g : Ghosts D) (d : Standing) (limits : Limits) (act : Act) (now : ℕ) (before after : Seen D V g)
    (sent : List Sending) (e : TurnEnd)
    → Turned g d limits act now before after sent e → GoesBy now before after
goes_by g d limits (Makes event asker) now before after sent e turned = makes g d limits event asker now before after sent e turned
goes_by g d limits (Tells peer number) now before after sent end.Done turned = same now before after turned.0
goes_by g d limits (Tells peer number) now before after sent end.NoMemory turned = same now before after turned.0
goes_by g d limits (Tells peer number) now before after sent end.Halted turned = absurd turned
goes_by g d limits (Tells peer number) now before after sent end.Cut turned = absurd turned
goes_by g d limits (Tells peer number) now before after sent (end.JournalFull entries bytes) turned = absurd turned
goes_by g d limits Rests now before after sent end.Done turned = same now before after turned.0
goes_by g d limits Rests now before after sent end.NoMemory turned = same now before after turned.0
goes_by g d limits Rests now before after sent end.Halted turned = absurd turned
goes_by g d limits Rests now before after sent end.Cut turned = absurd turned
goes_by g d limits Rests now before after sent (end.JournalFull entries bytes) turned = absurd turned

-- one moment more, which is not before the last one
falls_never : (moments : List ℕ) (n last now : ℕ) → length moments ≡ n + 1 → slice_index moments n ≡ last → last ≤ now → NeverFalls moments
    → NeverFalls (moments ++ now ∷ [])
falls_never moments n last now len is up falls = λ k within.
    let few : k + 1 < n + 2 = omega (arith, within, length-append moments (now ∷ []), len) in
    elim (cases_lt k n) [
      | inl below ↦
          let here = get_or_append_left moments (now ∷ []) 0 k (omega (arith, below, len)) in
          let next = get_or_append_left moments (now ∷ []) 0 (k + 1) (omega (arith, below, len)) in
          let rises = falls k (omega (arith, below, len)) in
          omega (arith, here, next, rises)
      | inr from ↦
          let place : k ≡ n = omega (arith, few, from) in
          let here = get_or_append_left moments (now ∷ []) 0 k (omega (arith, place, len)) in
          let at_last : slice_index moments k ≡ last = ap (slice_index moments) place ∙ is in
          let next = get_or_at moments now [] 0 (k + 1) (omega (arith, place, len)) in
          omega (arith, here, at_last, next, up)
    ]

-- the moments of a run at one place of it, and the last of them
pub record Timed (gave : ℕ → Type 0) (opened : ℕ) (items : List JournalItem) (last : ℕ) : Type 0 where
  pub timed : AreTimed gave (moments_of opened items)
  pub last_is : slice_index (moments_of opened items) (length items) ≡ last

-- so where a server was opened at a moment of the clock, and has made no step
pub opened_timed : (gave : ℕ → Type 0) (opened : ℕ) (items : List JournalItem) (last : ℕ) → items ≡ [] → IsOfClock gave opened
    → last ≡ opened → Timed gave opened items last
opened_timed gave opened items last none given is =
    let P : List JournalItem → Type 0 = λ xs. Timed gave opened xs last in
    subst P (sym none) (record {
      timed = (
        λ k d within. (let first : 0 ≡ k = omega (arith, within) in subst
            (λ (i : ℕ). IsOfClock gave (get_or (opened ∷ []) i d)) first given),
        λ k within. absurd (omega (arith, within)),
      );
      last_is = sym is;
    })

count : (opened : ℕ) (items : List JournalItem) → length (moments_of opened items) ≡ length items + 1
count opened items = let len = length-map items (λ (i : JournalItem). i.now) in omega (arith, len)

-- the last moment is one of the clock's
last_given : (gave : ℕ → Type 0) (opened : ℕ) (items : List JournalItem) (last : ℕ) → Timed gave opened items last → IsOfClock gave last
last_given gave opened items last t =
    subst (IsOfClock gave) t.last_is (t.timed.0 (length items) 0 (omega (arith, count opened items)))

later_given : (gave : ℕ → Type 0) (last now : ℕ) → IsOfClock gave last → IsOfClock gave now → IsOfClock gave (max last now)
later_given gave last now was is =
    elim (cases_lt last now) [
      | inl below ↦ let later : now ≡ max last now = omega (arith, below) in subst (IsOfClock gave) later is
      | inr from ↦ let later : last ≡ max last now = omega (arith, from) in subst (IsOfClock gave) later was
    ]

timed_more : (gave : ℕ → Type 0) (opened now : ℕ) (items : List JournalItem) (last : ℕ) (item : JournalItem) → Timed gave opened items last
    → IsOfClock gave now → last ≤ now → item.now ≡ now → Timed gave opened (items ++ item ∷ []) now
timed_more gave opened now items last item t given up is =
    let moments = moments_of opened items in
    let len = count opened items in
    let all : moments_of opened (items ++ item ∷ []) ≡ moments ++ now ∷ [] =
    ap (λ (ms : List ℕ). opened ∷ ms) (map-append (λ (i : JournalItem). i.now) items (item ∷ []))
    ∙ ap (λ (m : ℕ). moments ++ m ∷ []) is in
    let number : length (items ++ item ∷ []) ≡ length items + 1 = omega (arith, length-append items (item ∷ [])) in
    record {
      timed = subst (AreTimed gave) (sym all) (
        All-push (IsOfClock gave) moments now t.timed.0 given,
        falls_never moments (length items) last now len t.last_is up t.timed.1,
      );
      last_is = ap (λ (ms : List ℕ). slice_index ms (length (items ++ item ∷ []))) all
          ∙ ap (slice_index (moments ++ now ∷ [])) number ∙ get_or_at moments now [] 0 (length items + 1) len;
    }

-- the same with what the places are equal to
timed_as : (gave : ℕ → Type 0) (opened : ℕ) (items others : List JournalItem) (last other : ℕ) → others ≡ items → other ≡ last
    → Timed gave opened items last
    → Timed gave opened others other
timed_as gave opened items others last other same_items same_last t =
    let P : List JournalItem → Type 0 = λ xs. Timed gave opened xs last in
    subst (Timed gave opened others) (sym same_last) (subst P (sym same_items) t)

-- a turn at the later of the last moment and of one that the clock gave leaves them so
pub stays_timed : {D V : Type 0} {g : Ghosts D} (gave : ℕ → Type 0) (opened now : ℕ) (before after : Seen D V g)
    → GoesBy (max before.node.last now) before after
    → IsOfClock gave now → Timed gave opened before.items before.node.last → Timed gave opened after.items after.node.last
stays_timed gave opened now before after by given t =
    let later = max before.node.last now in
    elim by [
      | inl rested ↦ timed_as gave opened before.items after.items before.node.last after.node.last rested.0 rested.1 t
      | inr made ↦
          timed_as gave opened (before.items ++ made.0 ∷ []) after.items later after.node.last made.1 made.3
          (timed_more gave opened later before.items before.node.last made.0 t
          (later_given gave before.node.last now (last_given gave opened before.items before.node.last t) given)
          (omega arith) made.2)
    ]
