-- A recorded step is a step of the replay.
use Rattle.std.proofs.Common.{◌≡◌, ◌≢◌, ◌↔◌, ◌≤◌, ◌<◌, ℕ, zero, suc, Bool, true, false, cond, List, [], ◌∷◌, ◌++◌, length, refl, sym, ap, subst, ◌∙◌, arith}
use Rattle.std.specs.Prelude.{◌^◌, IfSome, IsSome, IsSomeAnd, Option, Some, None, if◌then◌else◌, map}
use Rattle.std.proofs.Math.Logic.{∥∥₁_map}
use Rattle.std.proofs.Math.Nat.{mod-eq_of_lt, pow-succ'}
use Rattle.std.proofs.lemmas.List.{append_assoc, map-append}
use Rattle.lock_table.specs.declared.tables.TheConstants.{MAX_WAITING}
use Rattle.disk_base.specs.declared.disks.Disk.{Ghosts}
use Rattle.ubik_types.specs.declared.versions.Version.{Version}
use Rattle.disk_base.specs.Files.{Files}
use Rattle.page_file.specs.Pages.{image_of}
use Rattle.ubik_store.specs.Files.{StandsFor}
use Rattle.ubik_store.specs.Rest.{IsAtRest}
use Rattle.ubik_store.specs.Store.{image_in}
use Rattle.ubik_store.proofs.Rests.{at_rest_stands}
use Rattle.db_image.specs.Database.{Database}
use Rattle.db_image.specs.Standing.{Standing}
use Rattle.ubik_calls.specs.declared.packets.Body.{Body}
use Rattle.ubik_calls.specs.declared.packets.Body.TheVariants as body
use Rattle.cell_model.specs.declared.events.NodeEvent.{NodeEvent}
use Rattle.cell_model.specs.declared.events.NodeEvent.TheVariants as event
use Rattle.cell_model.specs.declared.events.Output.{Output}
use Rattle.cell_model.specs.Evaluating.{told_by}
use Rattle.cell_model.specs.Lapse.{lapsed}
use Rattle.cell_model.specs.Node as model
use Rattle.cell_model.specs.NodeRule.{refusals, step_by}
use Rattle.cell_model.specs.Durable.{Durable}
use Rattle.cell_model.specs.Step.{Member, cell_size, outputs_of}
use Rattle.ubik_types.specs.declared.hosts.Host.{Host}
use Rattle.journal_model.specs.Items as items
use Rattle.journal_model.specs.Items.{bits, shorts_of}
use Rattle.journal_model.specs.Laws.{IsJournal, halted_item}
use Rattle.journal_model.specs.Laws as laws
use Rattle.journal_model.proofs.Few.{step_few}
use Rattle.journal_model.proofs.Replaying.{journal_halts, journal_stays, journal_steps}
use Rattle.journal_model.specs.Replay.{Replayed}
use Rattle.ubik_node.specs.declared.nodes.Node.{Node}
use Rattle.ubik_node.specs.declared.nodes.StepEnd.{StepEnd}
use Rattle.ubik_node.specs.declared.nodes.StepEnd.TheVariants as step
use Rattle.ubik_node.specs.Choices.{Choices, dbs_of}
use Rattle.ubik_node.specs.Disk.{FailsIn, StandsAs}
use Rattle.ubik_node.specs.Node.{durable_in, Needs, NeedsFiles, NeedsThen, StepsFreely, node_of, own_member, up_server}
use Rattle.server_journal.specs.declared.items.JournalItem.{JournalItem}
use Rattle.server_journal.specs.Items.{item_of, short_of, untold}
use Rattle.server_station.specs.Recording.{IsStep}
use Rattle.server_station.specs.Replaying.{IsDiskOf, IsFailedIn, IsJustOpened, IsReplay, Replays}

-- ---- the bits of a step's replies

one_bit : (b : Bool) → cond b 1 0 ≤ 1
one_bit true = omega arith
one_bit false = omega arith

bits_below : (n : ℕ) (bs : List Bool) → length bs ≤ n → bits bs < 2 ^ n
bits_below zero [] few = omega arith
bits_below zero (b ∷ bs) few = absurd (omega arith)
bits_below (suc n) [] few = omega (arith, pow-succ' 2 n, bits_below n [] (omega arith))
bits_below (suc n) (b ∷ bs) few = omega (arith, pow-succ' 2 n, bits_below n bs (omega (arith, few)), one_bit b)

-- no bit falls off where there are 128 replies at most
short_same : (outputs : List Output) → length (shorts_of outputs) ≤ 128 → short_of outputs ≡ bits (shorts_of outputs)
short_same outputs few = mod-eq_of_lt (bits_below 128 (shorts_of outputs) few)

none_short : (e : NodeEvent) → short_of (outputs_of (refusals e)) ≡ 0
none_short (event.Packet p) = refl
none_short event.BeaconTurn = refl
none_short event.RecoverTurn = refl
none_short (event.Ask id call) = refl

-- ---- one item more

is_false : (b : Bool) → ¬ (b ≡ true) → b ≡ false
is_false true not_so = absurd (not_so refl)
is_false false not_so = refl

arrives : (d : Standing) (m : Member) (opened : model.Node) (whole : List items.JournalItem) (after made : model.Node)
    (outputs out shown : List Output)
    → after ≡ made → out ≡ shown → IsJournal d m opened whole made (outputs ++ shown) → IsJournal d m opened whole after (outputs ++ out)
arrives d m opened whole after made outputs out shown server put is =
    let P : model.Node → Type 0 = λ n. IsJournal d m opened whole n (outputs ++ out) in
    let Q : List Output → Type 0 = λ o. IsJournal d m opened whole made (outputs ++ o) in
    subst P (sym server) (subst Q (sym put) is)

some_of : (files : Option Files) (P : Files → Type 0) → IsSomeAnd files P → IsSome files
some_of None P is = absurd is
some_of (Some fs) P is = refl

-- what holds of a disk that tells its files, where it does
of_some : (files : Option Files) (P : Files → Type 0) (Q : Type 0) → ((fs : Files) → P fs → Q) → IsSome files → IfSome files P → Q
of_some None P Q to is all = absurd cc
of_some (Some fs) P Q to is all = to fs all

module _ {D : Type 0} (g : Ghosts D) (d : Standing) (m : Member) where
  -- a step at a server that left another one, with its item
  record OneMore (before after : model.Node) (event : NodeEvent) (now : ℕ) (out : List Output) (halted : Bool) (old new : D) : Type 0 where
    pub item : items.JournalItem
    pub kept : untold item ≡ item_of now event out halted
    pub leads : (opened : model.Node) (whole : List items.JournalItem) (outputs : List Output) → IsJournal d m opened whole before outputs
        → IsJournal d m opened (whole ++ item ∷ []) after (outputs ++ out)
    pub fails : (opened : model.Node) (whole : List items.JournalItem) (outputs : List Output) → IsJournal d m opened whole before outputs
        → IsDiskOf g d m opened whole before old → halted ≡ true → IsFailedIn g d m opened (whole ++ item ∷ []) new

  module _ (now : ℕ) (e : NodeEvent) (old new : D) where
    made_more : (s : model.Server) (after : model.Node) (out : List Output) (halted : Bool) (o : Choices d)
        → let t = step_by (dbs_of o) m s now e o.short in
        length s.waiting ≤ 64 → halted ≡ false → after ≡ model.Up t.server → out ≡ outputs_of t.shown
        → OneMore (model.Up s) after e now out halted old new
    made_more s after out halted o line up server put =
        let t = step_by (told_by d.database o.told) m s now e o.short in
        let few : length (shorts_of (outputs_of t.shown)) ≤ 128 = omega
        (arith, step_few (told_by d.database o.told) m s now e o.short, line) in
        record {
          item = laws.item_of now e o.told t;
          kept = ap (λ (n : ℕ). record { now = now; event = e; short = n; halted = false })
              (sym (short_same (outputs_of t.shown) few) ∙ ap short_of (sym put))
              ∙ ap (λ (h : Bool). record { now = now; event = e; short = short_of out; halted = h }) (sym up);
          leads = λ opened whole outputs is.
              arrives d m opened (whole ++ laws.item_of now e o.told t ∷ []) after (model.Up t.server) outputs out
              (outputs_of t.shown) server put
              (journal_steps d m opened whole s outputs now e o.short o.told few o.may is);
          fails = λ opened whole outputs is disk failed. (let clash : true ≡ false = sym failed ∙ up in absurd cc);
        }

    halted_kept : (out : List Output) (halted : Bool) → halted ≡ true → out ≡ outputs_of (refusals e)
        → untold (halted_item now e) ≡ item_of now e out halted
    halted_kept out halted is put =
        ap (λ (n : ℕ). record { now = now; event = e; short = n; halted = true }) (sym (none_short e) ∙ ap short_of (sym put))
        ∙ ap (λ (h : Bool). record { now = now; event = e; short = short_of out; halted = h }) (sym is)

    halts_more : (s : model.Server) (after : model.Node) (out : List Output) (halted : Bool) (o : Choices d)
        → halted ≡ true → after ≡ model.Halted (model.halted_from s) → out ≡ outputs_of (refusals e)
        → FailsIn g (durable_in s) old new (step_by (dbs_of o) m s now e o.short).calls
        → OneMore (model.Up s) after e now out halted old new
    halts_more s after out halted o is server put failed = record {
      item = halted_item now e;
      kept = halted_kept out halted is put;
      leads = λ opened whole outputs was.
          arrives d m opened (whole ++ halted_item now e ∷ []) after (model.Halted (model.halted_from s)) outputs out
          (outputs_of (refusals e)) server put
          (journal_halts d m opened whole s outputs now e was);
      fails = λ opened whole outputs was disk _. record {
        before = whole;
        item = halted_item now e;
        after = [];
        whole_is = refl;
        server = s;
        was = ap (λ (r : Replayed). r.node) was.leads;
        halted = refl;
        choice = o;
        made = failed.whole;
        leaves = of_some (g.files old) _ _ (λ fs narrows. narrows) (some_of (g.files old) (StandsAs (durable_in s)) disk) failed.now;
      };
    }

    stays_more : (h : model.HaltedServer) (after : model.Node) (out : List Output) (halted : Bool)
        → halted ≡ true → after ≡ model.Halted h → out ≡ outputs_of (refusals e) → new ≡ old
        → OneMore (model.Halted h) after e now out halted old new
    stays_more h after out halted is server put same = record {
      item = halted_item now e;
      kept = halted_kept out halted is put;
      leads = λ opened whole outputs was.
          arrives d m opened (whole ++ halted_item now e ∷ []) after (model.Halted h) outputs out (outputs_of (refusals e)) server put
          (journal_stays d m opened whole h outputs now e was);
      fails = λ opened whole outputs was disk _.
          (let P : D → Type 0 = λ (x : D). IsFailedIn g d m opened (whole ++ halted_item now e ∷ []) x in
          subst P (sym same) (record {
            before = disk.before;
            item = disk.item;
            after = disk.after ++ halted_item now e ∷ [];
            whole_is = ap (λ (xs : List items.JournalItem). xs ++ halted_item now e ∷ []) disk.whole_is
                ∙ append_assoc disk.before (disk.item ∷ disk.after) (halted_item now e ∷ []);
            server = disk.server;
            was = disk.was;
            halted = disk.halted;
            choice = disk.choice;
            made = disk.made;
            leaves = disk.leaves;
          }));
    }

    -- of how a step ended
    one_more : (end : StepEnd) (before after : model.Node) (out : List Output) (halted : Bool)
        → ((s : model.Server) → before ≡ model.Up s → length s.waiting ≤ 64) → end ≢ step.NoMemory → (end ≡ step.Halted) ↔ (halted ≡ true)
        → StepsFreely g d m end e now before after out old new → OneMore before after e now out halted old new
    one_more step.Done (model.Up s) after out halted line short halts made =
        made_more s after out halted made.0 (line s refl)
        (is_false halted (λ is. let no : step.Done ≡ step.Halted = halts.1 is in cc)) made.1.server made.1.outputs
    one_more step.Done (model.Halted h) after out halted line short halts made = absurd made
    one_more step.Done model.Down after out halted line short halts made = absurd made
    one_more step.Halted (model.Up s) after out halted line short halts made =
        halts_more s after out halted made.2 (halts.0 refl) made.0 made.1 made.3
    one_more step.Halted (model.Halted h) after out halted line short halts made =
        stays_more h after out halted (halts.0 refl) made.0 made.1 made.2
    one_more step.Halted model.Down after out halted line short halts made = absurd made
    one_more step.NoMemory before after out halted line short halts made = absurd (short refl)

-- ---- what a step needs

module _ (tells : Type 0) (is : tells) where
  body_needs : (b : Body) → NeedsFiles b tells
  body_needs (body.Beacon start claim ready version) = tt
  body_needs (body.Vote start granted) = tt
  body_needs (body.GetVersion poll) = tt
  body_needs (body.VersionIs poll version) = is
  body_needs (body.GetPiece poll version offset) = is
  body_needs (body.Piece poll version total offset bytes) = is
  body_needs (body.SendPiece poll version total offset bytes) = is
  body_needs (body.PieceKept poll version next) = is
  body_needs (body.SetVersion poll old new) = tt
  body_needs (body.Begin old new pieces len) = tt
  body_needs (body.PutPiece new number bytes) = tt
  body_needs (body.Commit old new) = is
  body_needs (body.Abort new) = tt
  body_needs (body.VersionKept version) = is

then_needs : (db : Database) (m : Member) (s : model.Server) (e : NodeEvent) (now : ℕ) (files : Option Files) → IsSome files
    → NeedsThen db m s e now files
then_needs db m s (event.Packet p) now files is = body_needs (IsSome files) is p.body
then_needs db m s event.BeaconTurn now files is = tt
then_needs db m s event.RecoverTurn now files is = λ many. is
then_needs db m s (event.Ask id call) now files is = λ evaluated. is

step_needs : (db : Database) (m : Member) (node : model.Node) (e : NodeEvent) (now : ℕ) (files : Option Files)
    → ((s : model.Server) → node ≡ model.Up s → IsSome files) → Needs db m node e now files
step_needs db m (model.Up s) e now files told = then_needs db m (lapsed m s now).server e now files (told s refl)
step_needs db m (model.Halted h) e now files told = tt
step_needs db m model.Down e now files told = tt

-- ---- a node that is not halted

up_not_halted : (b : Bool) (h : model.HaltedServer) (s t : model.Server) → cond b (model.Halted h) (model.Up s) ≡ model.Up t
    → (b ≡ false) × (s ≡ t)
up_not_halted true h s t is = absurd cc
up_not_halted false h s t is = (refl, cc)

was_up : {D : Type 0} (g : Ghosts D) (d : Standing) (m : Member) (end : StepEnd) (e : NodeEvent) (now : ℕ) (before after : model.Node)
    (out : List Output) (old new : D)
    → end ≢ step.Halted → StepsFreely g d m end e now before after out old new → (s : model.Server) × (before ≡ model.Up s)
was_up g d m step.Done e now (model.Up s) after out old new up made = (s, refl)
was_up g d m step.Done e now (model.Halted h) after out old new up made = absurd made
was_up g d m step.Done e now model.Down after out old new up made = absurd made
was_up g d m step.NoMemory e now (model.Up s) after out old new up made = (s, refl)
was_up g d m step.NoMemory e now (model.Halted h) after out old new up made = absurd made
was_up g d m step.NoMemory e now model.Down after out old new up made = absurd made
was_up g d m step.Halted e now before after out old new up made = absurd (up refl)

same_node : {D : Type 0} (g : Ghosts D) (d : Standing) (m : Member) (e : NodeEvent) (now : ℕ) (before after : model.Node)
    (out : List Output) (old new : D)
    → StepsFreely g d m step.NoMemory e now before after out old new → before ≡ after
same_node g d m e now (model.Up s) after out old new made = sym made.0
same_node g d m e now (model.Halted h) after out old new made = absurd made
same_node g d m e now model.Down after out old new made = absurd made

-- ---- the disk of a server that is up

-- files at rest that a store keeps
stands : (files : Option Files) (version own : Version) (bytes : List ℕ) → IsSome files
    → IfSome files (λ fs. IsAtRest version (image_of fs.database) fs)
    → version ≡ own → IfSome (image_in files) (λ there. there ≡ bytes)
    → IsSomeAnd files (StandsAs (record { version = own; image = bytes }))
stands None version own bytes is rests same image = absurd cc
stands (Some fs) version own bytes is rests same image =
    let there = at_rest_stands fs version (image_of fs.database) rests in
    let P : Version → Type 0 = λ v. StandsFor fs v bytes in
    let Q : List ℕ → Type 0 = λ b. StandsFor fs version b in subst P same (subst Q image there)

pub stands_up : {D V : Type 0} (g : Ghosts D) (n : Node D V g) → n.store.failed ≡ false → IsSome (g.files n.store.disk)
    → IsSomeAnd (g.files n.store.disk) (StandsAs (durable_in (up_server n)))
stands_up g n up tells =
    stands (g.files n.store.disk) n.store.version n.state.version n.state.image tells (n.stored.sound.ready up).rests
    (n.stored.version up) (n.stored.image up)

tells_up : {D : Type 0} (g : Ghosts D) (d : Standing) (m : Member) (opened : model.Node) (whole : List items.JournalItem)
    (n : model.Node) (disk : D)
    → IsDiskOf g d m opened whole n disk → (s : model.Server) → n ≡ model.Up s → IsSome (g.files disk)
tells_up g d m opened whole (model.Up t) disk is s same = some_of (g.files disk) (StandsAs (durable_in t)) is
tells_up g d m opened whole (model.Halted h) disk is s same = absurd cc
tells_up g d m opened whole model.Down disk is s same = absurd cc

module _ {D V : Type 0} (g : Ghosts D) (d : Standing) (opened before after : Node D V g) (kept : List JournalItem) (outputs : List Output)
    (e : NodeEvent) (now : ℕ) where
  abbrev IsUp : model.Server → Type 0
  IsUp s = node_of before ≡ model.Up s

  abbrev IsNow : Node D V g → List JournalItem → List Output → Type 0
  IsNow n items outs = IsReplay g d (own_member opened) (node_of opened) items (node_of n) outs n.store.disk

  line_few : (s : model.Server) → IsUp s → length s.waiting ≤ 64
  line_few s is =
      let same : up_server before ≡ s =
      (up_not_halted before.store.failed (model.halted_from (up_server before)) (up_server before) s is).1 in
      let room : length (up_server before).waiting ≤ MAX_WAITING = before.state.written.room in
      let P : model.Server → Type 0 = λ t. length t.waiting ≤ 64 in subst P same room

  -- what the step was, at a server that is the replay of its journal
  module _ (end : StepEnd) (out : List Output) (member : own_member before ≡ own_member opened) (was : IsNow before kept outputs)
      (ended : IsStep g d end e now before after out) where
    told_up : (s : model.Server) → IsUp s → IsSome (g.files before.store.disk)
    told_up = tells_up g d (own_member opened) (node_of opened) was.whole (node_of before) before.store.disk was.disk_is

    made : StepsFreely g d (own_member opened) end e now (node_of before) (node_of after) out before.store.disk after.store.disk
    made =
        let P : Member → Type 0 = λ m. StepsFreely g d m end e now (node_of before)
        (node_of after) out before.store.disk after.store.disk in
        subst P member (ended.steps (step_needs d.database (own_member before) (node_of before) e now (g.files before.store.disk) told_up))

    still_told : after.store.failed ≡ false → IsSome (g.files after.store.disk)
    still_told up =
        let alive : end ≢ step.Halted = λ is. let no : after.store.failed ≡ true = ended.halts.0 is in absurd cc in
        let was_so = was_up g d (own_member opened) end e now (node_of before)
        (node_of after) out before.store.disk after.store.disk alive made in
        ended.told alive (told_up was_so.0 was_so.1)

    disk_by : (whole : List items.JournalItem)
        → (after.store.failed ≡ true → IsFailedIn g d (own_member opened) (node_of opened) whole after.store.disk)
        → (b : Bool) → after.store.failed ≡ b
        → IsDiskOf g d (own_member opened) (node_of opened) whole
        (if b then model.Halted (model.halted_from (up_server after)) else model.Up (up_server after)) after.store.disk
    disk_by whole fails true down = fails down
    disk_by whole fails false up = stands_up g after up (still_told up)

    -- one item more
    replay_more : end ≢ step.NoMemory → IsNow after (kept ++ item_of now e out after.store.failed ∷ []) (outputs ++ out)
    replay_more short =
        let more = one_more g d (own_member opened) now e before.store.disk after.store.disk end (node_of before)
        (node_of after) out after.store.failed line_few short ended.halts made in
        let whole = was.whole ++ more.item ∷ [] in
        record {
          whole = whole;
          kept_is = map-append untold was.whole (more.item ∷ [])
              ∙ ap (λ (i : JournalItem). map untold was.whole ++ i ∷ []) more.kept
              ∙ ap (λ (is : List JournalItem). is ++ item_of now e out after.store.failed ∷ []) was.kept_is;
          journal = more.leads (node_of opened) was.whole outputs was.journal;
          disk_is = disk_by whole (more.fails (node_of opened) was.whole outputs was.journal was.disk_is) after.store.failed refl;
        }

    -- a step that ended for want of memory
    replay_same : end ≡ step.NoMemory → IsNow after kept outputs
    replay_same short =
        let P : StepEnd → Type 0 = λ x. StepsFreely g d (own_member opened) x e now (node_of before)
        (node_of after) out before.store.disk after.store.disk in
        let same = same_node g d (own_member opened) e now (node_of before) (node_of after) out before.store.disk after.store.disk
        (subst P short made) in
        let Q : model.Node → Type 0 = λ n. IsJournal d (own_member opened) (node_of opened) was.whole n outputs in
        record {
          whole = was.whole;
          kept_is = was.kept_is;
          journal = subst Q same was.journal;
          disk_is = disk_by was.whole
              (λ down. let clash : step.NoMemory ≡ step.Halted = sym short ∙ ended.halts.1 down in absurd cc) after.store.failed refl;
        }

-- ---- as the type of a station has it

pub replays_more : {D V : Type 0} (g : Ghosts D) (d : Standing) (opened before after : Node D V g) (kept : List JournalItem)
    (outputs out : List Output) (e : NodeEvent) (now : ℕ) (end : StepEnd)
    → end ≢ step.NoMemory → own_member before ≡ own_member opened → IsStep g d end e now before after out
    → Replays g d opened before kept outputs
    → Replays g d opened after (kept ++ item_of now e out after.store.failed ∷ []) (outputs ++ out)
replays_more g d opened before after kept outputs out e now end short member ended was =
    λ tells. ∥∥₁_map (was tells) (λ is. replay_more g d opened before after kept outputs e now end out member is ended short)

pub replays_same : {D V : Type 0} (g : Ghosts D) (d : Standing) (opened before after : Node D V g) (kept : List JournalItem)
    (outputs out : List Output) (e : NodeEvent) (now : ℕ)
    → own_member before ≡ own_member opened → IsStep g d step.NoMemory e now before after out → Replays g d opened before kept outputs
    → Replays g d opened after kept outputs
replays_same g d opened before after kept outputs out e now member ended was =
    λ tells. ∥∥₁_map (was tells) (λ is. replay_same g d opened before after kept outputs e now step.NoMemory out member is ended refl)

-- at the opening
pub replays_none : {D V : Type 0} (g : Ghosts D) (d : Standing) (opened : Node D V g) → IsJustOpened opened
    → Replays g d opened opened [] []
replays_none g d opened first = λ tells.
    ∥∥₁_map first (λ found. record {
      whole = [];
      kept_is = refl;
      journal = record { each = tt; leads = refl };
      disk_is =
          (let up = (up_not_halted opened.store.failed (model.halted_from (up_server opened)) (up_server opened) _ found.1).0 in
          let P : Bool → Type 0 = λ b. IsDiskOf g d (own_member opened) (node_of opened) []
          (if b then model.Halted (model.halted_from (up_server opened)) else model.Up (up_server opened)) opened.store.disk in
          subst P (sym up) (stands_up g opened up tells));
    })

-- the same of what equals it
pub replays_at : {D V : Type 0} (g : Ghosts D) (d : Standing) (opened first now : Node D V g) (kept items : List JournalItem)
    (outputs put : List Output)
    → first ≡ opened → items ≡ kept → put ≡ outputs → Replays g d opened now kept outputs → Replays g d first now items put
replays_at {D} {V} g d opened first now kept items outputs put same journal out was =
    let P : Node D V g → Type 0 = λ n. Replays g d n now items put in
    let Q : List JournalItem → Type 0 = λ is. Replays g d opened now is put in
    let R : List Output → Type 0 = λ o. Replays g d opened now kept o in subst P (sym same) (subst Q (sym journal) (subst R (sym out) was))

-- a node as `open` leaves it was just opened
pub just_opened : {D V : Type 0} {g : Ghosts D} (n : Node D V g) (hosts : List Host) (me now : ℕ) (found : Durable)
    → node_of n ≡ model.Up (model.opened_server (length hosts) found now) → own_member n ≡ record { hosts = hosts; me = me }
    → n.last ≡ now → IsJustOpened n
just_opened n hosts me now found is member last =
    let size : cell_size (own_member n) ≡ length hosts = ap (λ (m : Member). cell_size m) member in
    let P : ℕ → Type 0 = λ k. node_of n ≡ model.Up (model.opened_server k found now) in
    let Q : ℕ → Type 0 = λ t. node_of n ≡ model.Up (model.opened_server (cell_size (own_member n)) found t) in
    ∣ (found, subst Q (sym last) (subst P (sym size) is)) ∣₁
