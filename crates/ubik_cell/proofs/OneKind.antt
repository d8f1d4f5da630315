-- Over the database of its own kind a cell does what it does over all databases, and its kind stays.
use Rattle.std.proofs.Common.{Bool, true, false, cond, ◌≡◌, ◌⊎◌, inl, inr, ℕ, zero, suc, ◌+◌, ◌-◌, ◌&&◌, nat_le, nat_lt, List, ◌++◌, length, refl, sym, ap, subst, ◌∙◌}
use Rattle.std.specs.Prelude.{Option, Some, None, Result, Ok, Err, IfOk, IfSome, set, drop, map, take}
use Rattle.cell_model.specs.Step.{host_at}
use Rattle.cell_model.specs.World.{Site, Trigger, Delivery, Beacon_turn, Recover_turn, Asking, Event, Tick, Tick_all, Crash, Restart, occasion, site_of, tick_at, ticked, may_tick}
use Rattle.cell_script.specs.Meaning.{line_of}
use Rattle.cell_script.specs.declared.lines.Kind.{Kind}
use Rattle.cell_script.specs.declared.lines.Line.{Line}
use Rattle.cell_script.specs.declared.lines.Line.TheVariants as line
use Rattle.cell_script.specs.declared.lines.Why.{Why}
use Rattle.cell_script.specs.declared.lines.Why.TheVariants as why
use Rattle.cell_runs.specs.declared.endings.Ending.{Ending}
use Rattle.cell_runs.specs.declared.endings.Ending.TheVariants.{Limit}
use Rattle.cell_runs.specs.declared.endings.Which.TheVariants.{Lines}
use Rattle.cell_runs.specs.declared.limits.TheConstants.{MAX_LINES}
use Rattle.cell_runs.specs.Script.{Choice, Choices, Cell, Cell_run, LineRead, Line_run, Opening, Run_or_why, Stage, Told, DiskOutcome, Serves, Fails_after, Stops_after, outcome_of, place_in, stepped_so, stepped, delivered, all_delivered, unless_ended, choice_of, first_choice, first_waiting, at_server, at_up, at_down, at_packet, is_down_at, unless_skewed, run_in, asked, asked_in, with_event, cell_size_of, dropped_of, shown_site, in_stage, kind_of_cell, line_result, line_run, meaning_run, next_line, or_refused, run_standing, text_in, told_with, resting, end_text, ended_at}
use Rattle.cell_runs.specs.ScriptDatabase.{ScriptDatabase, Databases}
use Rattle.cell_runs.specs.Trace.{TraceItem}
use Rattle.cell_sites.specs.Counts.{HoldRun}
use Rattle.cell_sites.specs.Disks.{Held}
use Rattle.script_promises.specs.Databases.{databases}
use Rattle.ubik_cell.specs.Lines.{AreHeld, HeldAfter, HoldStage, ShortLine, ToldLine, only}
use Rattle.ubik_cell.specs.ScriptRuns.{IsOfKind, kind_in}
use Rattle.ubik_cell.specs.declared.scripts.RunEnd.{RunEnd}

-- ---- the opening of a cell stays in each line

module _ (script_db : ScriptDatabase) where
  abbrev Stays : Opening → Cell_run → Type 0
  Stays opening r = r.cell.opening ≡ opening

  so_stays : (c : Cell) (trigger : Trigger) (k : ℕ) (short : List Bool) (outcome : DiskOutcome)
      → Stays c.opening (stepped_so script_db c trigger k short outcome)
  so_stays c trigger k short (Serves calls) = refl
  so_stays c trigger k short (Fails_after unheard made) = refl
  so_stays c trigger k short (Stops_after unheard made) = refl

  stepped_stays : (c : Cell) (choice : Choice) (trigger : Trigger) → Stays c.opening (stepped script_db c choice trigger)
  stepped_stays c choice trigger =
      so_stays c trigger (place_in (occasion c.run.world trigger)) choice.short
      (outcome_of script_db.database c.run.world choice c.armed (occasion c.run.world trigger))

  delivered_stays : (c : Cell) (choice : Choice) (number : ℕ) → Stays c.opening (delivered script_db c choice number)
  delivered_stays c choice number = stepped_stays (record c { handed = set c.handed (number - 1) true }) choice (Delivery number)

  unless_stays : (opening : Opening) (r next : Cell_run) (o : Option Ending) → Stays opening r → Stays r.cell.opening next
      → Stays opening (unless_ended r o next)
  unless_stays opening r next None first second = second ∙ first
  unless_stays opening r next (Some ending) first second = first

  all_stay : (most : ℕ) (c : Cell) (choices : List Choice) (o : Option ℕ) → Stays c.opening (all_delivered script_db most c choices o)
  all_stay zero c choices None = refl
  all_stay zero c choices (Some number) = refl
  all_stay (suc most) c choices None = refl
  all_stay (suc most) c choices (Some number) =
      let r : Cell_run = delivered script_db c (choice_of choices) number in
      unless_stays c.opening r (all_delivered script_db most r.cell (drop 1 choices) (first_waiting 1 r.cell.handed)) r.ending
      (delivered_stays c (choice_of choices) number) (all_stay most r.cell (drop 1 choices) (first_waiting 1 r.cell.handed))

  module _ (c : Cell) where
    abbrev MayStay : Run_or_why → Type 0
    MayStay r = IfOk r (λ r. r.cell.opening ≡ c.opening)

    if_stays : (b : Bool) (x y : Run_or_why) → MayStay x → MayStay y → MayStay (cond b x y)
    if_stays true x y first second = first
    if_stays false x y first second = second

    server_stays : (number : ℕ) (does : ℕ → Run_or_why) → ((k : ℕ) → MayStay (does k)) → MayStay (at_server c number does)
    server_stays number does stays =
        if_stays (nat_lt 0 number && nat_le number (cell_size_of c)) (does (number - 1)) (Err why.Server) (stays (number - 1)) tt

    up_stays : (number : ℕ) (does : ℕ → Cell_run) → ((k : ℕ) → Stays c.opening (does k)) → MayStay (at_up c number does)
    up_stays number does stays =
        server_stays number (λ k. cond (is_down_at c k) (Err why.State) (Ok (does k)))
        (λ k. if_stays (is_down_at c k) (Err why.State) (Ok (does k)) tt (stays k))

    down_stays : (number : ℕ) (does : ℕ → Cell_run) → ((k : ℕ) → Stays c.opening (does k)) → MayStay (at_down c number does)
    down_stays number does stays =
        server_stays number (λ k. cond (is_down_at c k) (Ok (does k)) (Err why.State))
        (λ k. if_stays (is_down_at c k) (Ok (does k)) (Err why.State) (stays k) tt)

    packet_stays : (number : ℕ) (r : Cell_run) → Stays c.opening r → MayStay (at_packet c number r)
    packet_stays number r stays = if_stays (nat_lt 0 number && nat_le number (length c.run.world.packets)) (Ok r) (Err why.Packet) stays tt

    skewed_stays : (sites : List Site) (e : Event) → MayStay (unless_skewed script_db c sites e)
    skewed_stays sites e = if_stays (may_tick sites) (Ok (with_event script_db c e)) (Err why.Skew) refl tt

    line_stays : (choices : Choices) (l : Line) → MayStay (run_in script_db c choices l)
    line_stays choices (line.Tick server seconds) =
        server_stays server (λ k. unless_skewed script_db c (tick_at c.run.world.sites k seconds) (Tick k seconds))
        (λ k. skewed_stays (tick_at c.run.world.sites k seconds) (Tick k seconds))
    line_stays choices (line.TickAll seconds) = skewed_stays (map (ticked seconds) c.run.world.sites) (Tick_all seconds)
    line_stays choices (line.Beacon server) =
        up_stays server (λ k. stepped script_db c (first_choice choices) (Beacon_turn k))
        (λ k. stepped_stays c (first_choice choices) (Beacon_turn k))
    line_stays choices (line.Recover server) =
        up_stays server (λ k. stepped script_db c (first_choice choices) (Recover_turn k))
        (λ k. stepped_stays c (first_choice choices) (Recover_turn k))
    line_stays choices (line.Deliver packet) =
        packet_stays packet (delivered script_db c (first_choice choices) packet) (delivered_stays c (first_choice choices) packet)
    line_stays choices (line.Drop packet) = packet_stays packet (resting (record c { handed = set c.handed (packet - 1) true })) refl
    line_stays choices (line.DropAll server) =
        up_stays server (λ k. resting (record c { handed = dropped_of (host_at c.run.world.hosts k) c.run.world.packets c.handed }))
        (λ k. refl)
    line_stays choices line.DeliverAll = all_stay choices.most c choices.each (first_waiting 1 c.handed)
    line_stays choices (line.Stop server calls f) =
        up_stays server (λ k. resting (record c { armed = set c.armed k (Some (record { calls = calls; made = 0 })) })) (λ k. refl)
    line_stays choices (line.Crash server) =
        up_stays server (λ k. with_event script_db (record c { armed = set c.armed k None }) (Crash k)) (λ k. refl)
    line_stays choices (line.Restart server) =
        down_stays server (λ k. with_event script_db c (Restart k (first_choice choices).fails)) (λ k. refl)
    line_stays choices (line.Show server) =
        server_stays server (λ k. Ok (record { cell = c; items = shown_site (cell_size_of c) k (site_of c.run.world k); ending = None }))
        (λ k. refl)
    line_stays choices (line.Cell servers clock k) = tt
    line_stays choices line.Nothing = refl
    line_stays choices (line.Ask server words) = tt

    ask_stays : (choice : Choice) (id : ℕ) (words : List (List ℕ)) (server : Option ℕ) → MayStay (asked script_db c choice id words server)
    ask_stays choice id words server = by server (script_db.words.call_of words)
      where
        by : (server : Option ℕ) (call : Option (List ℕ)) → MayStay (asked_in script_db c choice id words server call)
        by server None = tt
        by None (Some call) = tt
        by (Some number) (Some call) =
            up_stays number (λ k. stepped script_db c choice (Asking k id call)) (λ k. stepped_stays c choice (Asking k id call))

-- ---- what a line means in a cell, or where none stands

abbrev meaning_with : Databases → Stage → Choices → Option Cell → Result Line Why → Result Line_run Why
meaning_with dbs st choices cell (Err w) = Err w
meaning_with dbs st choices cell (Ok l) = line_run dbs st choices l cell

meaning_is : (dbs : Databases) (st : Stage) (choices : Choices) (m : Result Line Why)
    → meaning_run dbs st choices m ≡ meaning_with dbs st choices st.cell m
meaning_is dbs st choices (Err w) = refl
meaning_is dbs st choices (Ok l) = refl

-- a line of this meaning opens no cell, or one of this kind
abbrev pub OpensIn : Kind → Option Cell → Result Line Why → Type 0
OpensIn k None m = IfSome (kind_in m) (λ x. x ≡ k)
OpensIn k (Some c) m = Unit {0}

abbrev pub OpensKind : Kind → Option Cell → List ℕ → Type 0
OpensKind k cell bytes = OpensIn k cell (line_of bytes)

-- what is the same where a cell stands as where none does
either_is : {X : Type 0} (P : X → Type 0) (b : Bool) (x y : X) → P x → P y → P (cond b x y)
either_is P true x y first second = first
either_is P false x y first second = second

module _ (k : Kind) where
  -- ---- the kind of a cell stays

  abbrev pub KeepsKind : {E : Type 0} → Result Line_run E → Type 0
  KeepsKind r = IfOk r (λ run. IsOfKind k run.stage.cell)

  staged : (st : Stage) (c : Cell) (r : Run_or_why) → kind_of_cell c ≡ k → IfOk r (λ r. r.cell.opening ≡ c.opening)
      → KeepsKind (in_stage st r)
  staged st c (Err w) is stays = tt
  staged st c (Ok r) is stays = ap (λ (o : Opening). o.kind) stays ∙ is

  standing_kind : (dbs : Databases) (st : Stage) (choices : Choices) (c : Cell) (l : Line) → kind_of_cell c ≡ k
      → KeepsKind (run_standing dbs st choices c l)
  standing_kind dbs st choices c (line.Ask server words) is =
      staged (record st { asks = st.asks + 1 }) c (asked (dbs (kind_of_cell c)) c (first_choice choices) (st.asks + 1) words server) is
      (ask_stays (dbs (kind_of_cell c)) c (first_choice choices) (st.asks + 1) words server)
  standing_kind dbs st choices c (line.Tick server seconds) is =
      staged st c (run_in (dbs (kind_of_cell c)) c choices (line.Tick server seconds)) is
      (line_stays (dbs (kind_of_cell c)) c choices (line.Tick server seconds))
  standing_kind dbs st choices c (line.TickAll seconds) is =
      staged st c (run_in (dbs (kind_of_cell c)) c choices (line.TickAll seconds)) is
      (line_stays (dbs (kind_of_cell c)) c choices (line.TickAll seconds))
  standing_kind dbs st choices c (line.Beacon server) is =
      staged st c (run_in (dbs (kind_of_cell c)) c choices (line.Beacon server)) is
      (line_stays (dbs (kind_of_cell c)) c choices (line.Beacon server))
  standing_kind dbs st choices c (line.Recover server) is =
      staged st c (run_in (dbs (kind_of_cell c)) c choices (line.Recover server)) is
      (line_stays (dbs (kind_of_cell c)) c choices (line.Recover server))
  standing_kind dbs st choices c (line.Deliver packet) is =
      staged st c (run_in (dbs (kind_of_cell c)) c choices (line.Deliver packet)) is
      (line_stays (dbs (kind_of_cell c)) c choices (line.Deliver packet))
  standing_kind dbs st choices c (line.Drop packet) is =
      staged st c (run_in (dbs (kind_of_cell c)) c choices (line.Drop packet)) is
      (line_stays (dbs (kind_of_cell c)) c choices (line.Drop packet))
  standing_kind dbs st choices c (line.DropAll server) is =
      staged st c (run_in (dbs (kind_of_cell c)) c choices (line.DropAll server)) is
      (line_stays (dbs (kind_of_cell c)) c choices (line.DropAll server))
  standing_kind dbs st choices c line.DeliverAll is =
      staged st c (run_in (dbs (kind_of_cell c)) c choices line.DeliverAll) is (line_stays (dbs (kind_of_cell c)) c choices line.DeliverAll)
  standing_kind dbs st choices c (line.Stop server calls f) is =
      staged st c (run_in (dbs (kind_of_cell c)) c choices (line.Stop server calls f)) is
      (line_stays (dbs (kind_of_cell c)) c choices (line.Stop server calls f))
  standing_kind dbs st choices c (line.Crash server) is =
      staged st c (run_in (dbs (kind_of_cell c)) c choices (line.Crash server)) is
      (line_stays (dbs (kind_of_cell c)) c choices (line.Crash server))
  standing_kind dbs st choices c (line.Restart server) is =
      staged st c (run_in (dbs (kind_of_cell c)) c choices (line.Restart server)) is
      (line_stays (dbs (kind_of_cell c)) c choices (line.Restart server))
  standing_kind dbs st choices c (line.Show server) is =
      staged st c (run_in (dbs (kind_of_cell c)) c choices (line.Show server)) is
      (line_stays (dbs (kind_of_cell c)) c choices (line.Show server))
  standing_kind dbs st choices c (line.Cell servers clock other) is =
      staged st c (run_in (dbs (kind_of_cell c)) c choices (line.Cell servers clock other)) is
      (line_stays (dbs (kind_of_cell c)) c choices (line.Cell servers clock other))
  standing_kind dbs st choices c line.Nothing is =
      staged st c (run_in (dbs (kind_of_cell c)) c choices line.Nothing) is (line_stays (dbs (kind_of_cell c)) c choices line.Nothing)

  first_kind : (dbs : Databases) (st : Stage) (choices : Choices) (m : Result Line Why) → st.cell ≡ None → OpensIn k None m
      → KeepsKind (meaning_with dbs st choices None m)
  first_kind dbs st choices (Err w) none opens = tt
  first_kind dbs st choices (Ok line.Nothing) none opens = subst (IsOfKind k) (sym none) tt
  first_kind dbs st choices (Ok (line.Cell servers clock other)) none opens = opens
  first_kind dbs st choices (Ok (line.Ask None words)) none opens = tt
  first_kind dbs st choices (Ok (line.Ask (Some server) words)) none opens = tt
  first_kind dbs st choices (Ok (line.Tick server seconds)) none opens = tt
  first_kind dbs st choices (Ok (line.TickAll seconds)) none opens = tt
  first_kind dbs st choices (Ok (line.Beacon server)) none opens = tt
  first_kind dbs st choices (Ok (line.Recover server)) none opens = tt
  first_kind dbs st choices (Ok (line.Deliver packet)) none opens = tt
  first_kind dbs st choices (Ok (line.Drop packet)) none opens = tt
  first_kind dbs st choices (Ok (line.DropAll server)) none opens = tt
  first_kind dbs st choices (Ok line.DeliverAll) none opens = tt
  first_kind dbs st choices (Ok (line.Stop server calls f)) none opens = tt
  first_kind dbs st choices (Ok (line.Crash server)) none opens = tt
  first_kind dbs st choices (Ok (line.Restart server)) none opens = tt
  first_kind dbs st choices (Ok (line.Show server)) none opens = tt

  meaning_kind : (dbs : Databases) (st : Stage) (choices : Choices) (cell : Option Cell) (m : Result Line Why) → st.cell ≡ cell
      → IsOfKind k cell
      → OpensIn k cell m → KeepsKind (meaning_with dbs st choices cell m)
  meaning_kind dbs st choices None m is kind opens = first_kind dbs st choices m is opens
  meaning_kind dbs st choices (Some c) (Err w) is kind opens = tt
  meaning_kind dbs st choices (Some c) (Ok l) is kind opens = standing_kind dbs st choices c l kind

  refused_kind : (r : Result Line_run Why) → KeepsKind r → KeepsKind (or_refused r)
  refused_kind (Ok run) keeps = keeps
  refused_kind (Err w) keeps = tt

  result_kind : (dbs : Databases) (st : Stage) (r : LineRead) → IsOfKind k st.cell → OpensKind k st.cell r.line
      → KeepsKind (line_result dbs st r)
  result_kind dbs st r kind opens =
      let m = line_of r.line in
      either_is KeepsKind (nat_le MAX_LINES st.lines) (Err (Limit Lines)) (or_refused (meaning_run dbs (next_line st) r.choices m)) tt
      (refused_kind (meaning_run dbs (next_line st) r.choices m)
      (subst KeepsKind (sym (meaning_is dbs (next_line st) r.choices m))
      (meaning_kind dbs (next_line st) r.choices st.cell m refl kind opens)))

  -- ---- and so does what it does

  abbrev pub own : Databases
  own = only (databases k)

  standing_same : (st : Stage) (choices : Choices) (c : Cell) (l : Line)
      → run_standing (only (databases (kind_of_cell c))) st choices c l ≡ run_standing databases st choices c l
  standing_same st choices c (line.Ask server words) = refl
  standing_same st choices c (line.Tick server seconds) = refl
  standing_same st choices c (line.TickAll seconds) = refl
  standing_same st choices c (line.Beacon server) = refl
  standing_same st choices c (line.Recover server) = refl
  standing_same st choices c (line.Deliver packet) = refl
  standing_same st choices c (line.Drop packet) = refl
  standing_same st choices c (line.DropAll server) = refl
  standing_same st choices c line.DeliverAll = refl
  standing_same st choices c (line.Stop server calls f) = refl
  standing_same st choices c (line.Crash server) = refl
  standing_same st choices c (line.Restart server) = refl
  standing_same st choices c (line.Show server) = refl
  standing_same st choices c (line.Cell servers clock other) = refl
  standing_same st choices c line.Nothing = refl

  meaning_same : (st : Stage) (choices : Choices) (cell : Option Cell) (m : Result Line Why) → IsOfKind k cell
      → meaning_with own st choices cell m ≡ meaning_with databases st choices cell m
  meaning_same st choices cell (Err w) kind = refl
  meaning_same st choices None (Ok l) kind = refl
  meaning_same st choices (Some c) (Ok l) kind =
      subst (λ (x : Kind). run_standing (only (databases x)) st choices c l ≡ run_standing databases st choices c l) kind
      (standing_same st choices c l)

  result_same : (st : Stage) (r : LineRead) → IsOfKind k st.cell → line_result own st r ≡ line_result databases st r
  result_same st r kind =
      let m = line_of r.line in
      ap (λ (x : Result Line_run Why). cond (nat_le MAX_LINES st.lines) (Err (Limit Lines)) (or_refused x))
      (meaning_is own (next_line st) r.choices m ∙ meaning_same (next_line st) r.choices st.cell m kind
      ∙ sym (meaning_is databases (next_line st) r.choices m))

  text_same : (cell : Option Cell) (items : List TraceItem) → IsOfKind k cell → text_in own cell items ≡ text_in databases cell items
  text_same None items kind = refl
  text_same (Some c) items kind =
      subst (λ (x : Kind). text_in (only (databases x)) (Some c) items ≡ text_in databases (Some c) items) kind refl

  told_same : (t : Told) (r : Result Line_run Ending) → KeepsKind r → told_with own t r ≡ told_with databases t r
  told_same t (Err ending) keeps = refl
  told_same t (Ok run) keeps =
      let ended = ended_at (t.stage.lines + 1) run.ending in
      ap (λ (text : List ℕ). record {
        stage = run.stage;
        items = t.items ++ run.items;
        text = t.text ++ text
            ++ end_text ended;
        ended = ended;
      })
      (text_same run.stage.cell run.items keeps)

  told_kind : (t : Told) (r : Result Line_run Ending) → IsOfKind k t.stage.cell → KeepsKind r
      → IsOfKind k (told_with databases t r).stage.cell
  told_kind t (Err ending) kind keeps = kind
  told_kind t (Ok run) kind keeps = keeps

  module _ (t : Told) (r : LineRead) (kind : IsOfKind k t.stage.cell) (opens : OpensKind k t.stage.cell r.line) where
    pub line_same : told_with own t (line_result own t.stage r) ≡ told_with databases t (line_result databases t.stage r)
    line_same =
        ap (told_with own t) (result_same t.stage r kind)
        ∙ told_same t (line_result databases t.stage r) (result_kind databases t.stage r kind opens)

    pub line_kind : IsOfKind k (told_with databases t (line_result databases t.stage r)).stage.cell
    line_kind = told_kind t (line_result databases t.stage r) kind (result_kind databases t.stage r kind opens)

  -- ---- what disks hold

  pub hold_same : (given : List ℕ) (short : Bool) (cell : Option Cell) (disks : List Held) → IsOfKind k cell
      → HoldStage own given short cell disks → HoldStage databases given short cell disks
  hold_same given short None disks kind holds = holds
  hold_same given short (Some c) disks kind holds =
      let n = length c.run.world.sites in
      (subst (λ (x : Kind). HoldRun (databases x).database (take n given) short c (take n disks)) (sym kind) holds.0, holds.1)

  module _ (given line : List ℕ) (t : Told) (kind : IsOfKind k t.stage.cell) (opens : OpensKind k t.stage.cell line) where
    -- what a line told over the database of the kind is what it tells over all
    pub told_line : (result : Result (Unit {0}) RunEnd) (Follows Goes : Told → Type 0) (sites : ℕ) (text_before text_after : List ℕ)
        → ((later : Told) → IsOfKind k later.stage.cell → Follows later → Goes later)
        → ToldLine own line t result Follows sites text_before text_after
        → ToldLine databases line t result Goes sites text_before text_after
    told_line result Follows Goes sites text_before text_after goes of =
        let r : LineRead = record { line = line; choices = of.choices } in
        let is : of.later ≡ told_with databases t (line_result databases t.stage r) = of.is ∙ line_same t r kind opens in
        record {
          choices = of.choices;
          whole = of.whole;
          later = of.later;
          is = is;
          ended = of.ended;
          added = of.added;
          told = of.told;
          text = of.text;
          leaves = goes of.later (subst (λ (d : Told). IsOfKind k d.stage.cell) (sym is) (line_kind t r kind opens)) of.leaves;
          servers = of.servers;
        }

    held_after : (disks : List Held) → HeldAfter own given line t disks → HeldAfter databases given line t disks
    held_after disks after =
        let r : LineRead = record { line = line; choices = after.choices } in
        let later = told_with databases t (line_result databases t.stage r) in
        let held = subst (λ (d : Told). AreHeld own given true d disks) (line_same t r kind opens) after.held in
        record {
          choices = after.choices;
          held = record { holds = hold_same given true later.stage.cell disks (line_kind t r kind opens) held.holds; causes = held.causes };
        }

    short_by : (disks : List Held) → HoldStage own given true t.stage.cell disks ⊎ HeldAfter own given line t disks
        → HoldStage databases given true t.stage.cell disks ⊎ HeldAfter databases given line t disks
    short_by disks (inl holds) = inl (hold_same given true t.stage.cell disks kind holds)
    short_by disks (inr after) = inr (held_after disks after)

    pub short_line : (disks : List Held) → ShortLine own given line t disks → ShortLine databases given line t disks
    short_line disks short = record { causes = short.causes; held = short_by disks short.held }
