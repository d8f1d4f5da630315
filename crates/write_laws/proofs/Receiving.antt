-- Packets of a sync site, and of votes, keep what a server knows, and answer no call.
use Rattle.std.proofs.Common.{Bool, true, false, cond, ◌==◌, ◌≡◌, ℕ, ◌+◌, ◌-◌, ◌<◌, ◌≤◌, List, [], ◌∷◌, ◌++◌, length, refl, sym, ap, ◌∙◌, arith}
use Rattle.std.proofs.lemmas.Bool.{cond_both}
use Rattle.std.proofs.lemmas.Bool.Decides.{nat_tests}
use Rattle.std.proofs.lemmas.List.{length-replicate}
use Rattle.std.specs.Prelude.{Option, Some, None, ◌&&◌, ◌||◌, nat_lt, nat_le, max, min, is_none, replicate}
use Rattle.ubik_types.specs.declared.hosts.Host.{Host}
use Rattle.ubik_types.specs.declared.images.Change.{Change}
use Rattle.ubik_types.specs.declared.images.Change.TheVariants.{Put, Cut}
use Rattle.ubik_types.specs.declared.limits.TheConstants.{MAX_CHANGES, MAX_IMAGE}
use Rattle.ubik_types.specs.declared.versions.Version.{Version}
use Rattle.ubik_types.specs.Image.{effect}
use Rattle.ubik_types.specs.Logged.{gap_before, logged, passed_limit, first_of_two, too_large}
use Rattle.ubik_types.specs.Moment.{IsMoment}
use Rattle.ubik_types.specs.Version.{IsVersion, version_lt, version_eq}
use Rattle.ubik_types.specs.Votes.{beacon_is_due, answers_yes}
use Rattle.ubik_calls.specs.declared.packets.Body.TheVariants as body
use Rattle.ubik_calls.specs.declared.packets.TheConstants.{MAX_PIECE, MAX_PIECES}
use Rattle.db_image.specs.Database.{Database}
use Rattle.cell_model.specs.Durable.{Received}
use Rattle.cell_model.specs.Durable as durables
use Rattle.cell_model.specs.Node.{Server, KeptWrite, ReceivedText}
use Rattle.cell_model.specs.Pieces.{piece_from}
use Rattle.cell_model.specs.Receiver.{is_sending, answers_version_kept, answers_version_is, relabelled_by, set_version_received, text_went_on}
use Rattle.cell_model.specs.Receiver.{send_piece_received, empty_write, begin_received, kept_with, put_piece_received, whole_write, committed_by}
use Rattle.cell_model.specs.Receiver.{write_taken, commit_received, kept_but, abort_received, get_piece_received}
use Rattle.cell_model.specs.Recovery.{is_whole, installed, text_with}
use Rattle.cell_model.specs.Step.{Member, cell_size, Stepped, quiet, leased, is_ready, is_fetch, told_version, with_database}
use Rattle.cell_model.specs.Voting.{own_beacon, beacon_turn, beacon_taken, beacon_received, vote_received}
use Rattle.cell_laws.proofs.Parts.{and_both, lt_true, lt_false, or_none}
use Rattle.cell_places.proofs.Hosts.{HasPlace}
use Rattle.recovery_laws.specs.HasNoWrite.{IsReceived}
use Rattle.recovery_laws.proofs.Facts.{IsLaterText, above_first, not_first, text_later, text_is, told_is, piece_short}
use Rattle.write_laws.specs.Keeping.{IsKept}
use Rattle.write_laws.proofs.Facts.{Keeps, begun_is, kept_with_is, kept_but_is, whole_later, idle_flight, database_keeps, received_keeps, kept_keeps}
use Rattle.write_laws.proofs.Goes.{IsBoundedBody, Goes, one_silent, each_silent, turns, shows, rests, makes, follows}
use Rattle.write_laws.proofs.Recovering.{installed_goes}

-- ---- changes as a store keeps them

pub none_first : (a b : Option ℕ) → first_of_two a b ≡ None → (a ≡ None) × (b ≡ None)
none_first None b is = (refl, is)
none_first (Some n) b is = absurd (cc)

both_none : (a b : Option ℕ) → a ≡ None → b ≡ None → first_of_two a b ≡ None
both_none None b first second = second
both_none (Some n) b first second = absurd (cc)

pub limits : (sum end : ℕ) → passed_limit sum end ≡ None → (sum ≤ MAX_CHANGES) × (end ≤ MAX_IMAGE)
limits sum end is = by (nat_lt MAX_CHANGES sum) (nat_lt MAX_IMAGE end) refl refl is
  where
    by : (a b : Bool) → nat_lt MAX_CHANGES sum ≡ a → nat_lt MAX_IMAGE end ≡ b → cond a (Some sum) (cond b (Some end) None) ≡ None →
        (sum ≤ MAX_CHANGES) × (end ≤ MAX_IMAGE)
    by true b x y is = absurd (cc)
    by false true x y is = absurd (cc)
    by false false x y is = (lt_false MAX_CHANGES sum x, lt_false MAX_IMAGE end y)

inside_limits : (sum end : ℕ) → sum ≤ MAX_CHANGES → end ≤ MAX_IMAGE → passed_limit sum end ≡ None
inside_limits sum end few short = by (nat_lt MAX_CHANGES sum) (nat_lt MAX_IMAGE end) refl refl
  where
    by : (a b : Bool) → nat_lt MAX_CHANGES sum ≡ a → nat_lt MAX_IMAGE end ≡ b → cond a (Some sum) (cond b (Some end) None) ≡ None
    by true b x y = (let above : MAX_CHANGES < sum = lt_true MAX_CHANGES sum x in absurd (omega arith))
    by false true x y = (let above : MAX_IMAGE < end = lt_true MAX_IMAGE end y in absurd (omega arith))
    by false false x y = refl

-- a put without a gap
put_small : (sum len at : ℕ) (bytes : List ℕ) (changes : List Change) → at ≤ len → sum + length bytes ≤ MAX_CHANGES →
    max len (at + length bytes) ≤ MAX_IMAGE → too_large (sum + length bytes) (max len (at + length bytes)) changes ≡ None →
    too_large sum len (Put at bytes ∷ changes) ≡ None
put_small sum len at bytes changes inside few short rest =
    let none : at - len ≡ 0 = omega arith in
    let sums : sum + (at - len) ≡ sum = omega arith in
    both_none (passed_limit (sum + (at - len)) (max len at)) _ (inside_limits (sum + (at - len)) (max len at) (omega arith) (omega arith))
    (both_none (passed_limit (sum + (at - len) + length bytes) (max len (at + length bytes))) _
    (inside_limits (sum + (at - len) + length bytes) (max len (at + length bytes)) (omega arith) short)
    (ap (λ (n : ℕ). too_large (n + length bytes) (max len (at + length bytes)) changes) sums ∙ rest))

-- a put behind its gap, if it has one, where those that follow are small
put_logged : (sum len at : ℕ) (bytes : List ℕ) (later : List Change) → passed_limit (sum + (at - len)) (max len at) ≡ None →
    passed_limit (sum + (at - len) + length bytes) (max len (at + length bytes)) ≡ None →
    too_large (sum + (at - len) + length bytes) (max len (at + length bytes)) later ≡ None →
    too_large sum len (gap_before len at ++ Put at bytes ∷ later) ≡ None
put_logged sum len at bytes later first second rest = by (nat_lt len at) refl
  where
    gap : (sum + (at - len) ≤ MAX_CHANGES) × (max len at ≤ MAX_IMAGE)
    gap = limits (sum + (at - len)) (max len at) first

    put : (sum + (at - len) + length bytes ≤ MAX_CHANGES) × (max len (at + length bytes) ≤ MAX_IMAGE)
    put = limits (sum + (at - len) + length bytes) (max len (at + length bytes)) second

    zeros : List ℕ
    zeros = replicate (at - len) 0

    filled : nat_lt len at ≡ true → too_large sum len (Put len zeros ∷ Put at bytes ∷ later) ≡ None
    filled less =
        let below : len < at = lt_true len at less in
        let long : length zeros ≡ at - len = length-replicate {A = ℕ} (at - len) 0 in
        let sums : sum + (at - len) ≤ MAX_CHANGES = gap.0 in
        let ends : max len at ≤ MAX_IMAGE = gap.1 in
        let over : max len (at + length bytes) ≤ MAX_IMAGE = put.1 in
        let after : max len (len + length zeros) ≡ at = omega arith in
        let longer : max at (at + length bytes) ≡ max len (at + length bytes) = omega arith in
        put_small sum len len zeros (Put at bytes ∷ later) (omega arith) (omega arith) (omega arith)
        (ap (λ (n : ℕ). too_large (sum + length zeros) n (Put at bytes ∷ later)) after
        ∙ ap (λ (n : ℕ). too_large (sum + n) at (Put at bytes ∷ later)) long
        ∙ put_small (sum + (at - len)) at at bytes later (omega arith) put.0 (omega arith)
        (ap (λ (n : ℕ). too_large (sum + (at - len) + length bytes) n later) longer ∙ rest))

    close : nat_lt len at ≡ false → too_large sum len (Put at bytes ∷ later) ≡ None
    close not_less =
        let inside : at ≤ len = lt_false len at not_less in
        let none : sum + (at - len) ≡ sum = omega arith in
        let sums : sum + (at - len) + length bytes ≤ MAX_CHANGES = put.0 in
        put_small sum len at bytes later inside (omega arith) put.1
        (ap (λ (n : ℕ). too_large (n + length bytes) (max len (at + length bytes)) later) (sym none) ∙ rest)

    by : (t : Bool) → nat_lt len at ≡ t → too_large sum len (cond t (Put len zeros ∷ []) [] ++ Put at bytes ∷ later) ≡ None
    by true less = filled less
    by false not_less = close not_less

-- the changes that are kept are no larger
pub logged_small : (sum len : ℕ) (changes : List Change) → too_large sum len changes ≡ None → too_large sum len (logged len changes) ≡ None
logged_small sum len [] is = refl
logged_small sum len (Cut to ∷ changes) is =
    let same : min (min to len) len ≡ min to len = omega arith in
    ap (λ (n : ℕ). too_large sum n (logged (min to len) changes)) same ∙ logged_small sum (min to len) changes is
logged_small sum len (Put at bytes ∷ changes) is =
    let first = none_first (passed_limit (sum + (at - len)) (max len at)) _ is in
    let second = none_first (passed_limit (sum + (at - len) + length bytes) (max len (at + length bytes))) _ first.1 in
    put_logged sum len at bytes (logged (max len (at + length bytes)) changes) first.0 second.0
    (logged_small (sum + (at - len) + length bytes) (max len (at + length bytes)) changes second.1)

-- ---- packets of a sync site

module _ (db : Database) (m : Member) (now : ℕ) (inside : m.me < cell_size m) (moment : IsMoment now) where
  abbrev Good : Server → Type 0
  Good s = Keeps db (cell_size m) s

  abbrev Part : ℕ → Server → Stepped → Type 0
  Part most s t = Goes db m most s t

  -- the server says which version it has
  kept_goes : (most : ℕ) (s : Server) (host : Host) → HasPlace m.hosts host → Good s → Part most s (answers_version_kept m host s)
  kept_goes most s host there good = shows db m most s _ good (one_silent m inside host (body.VersionKept s.version) there (good.version, tt))

  pub tells_goes : (most : ℕ) (s : Server) (host : Host) (poll : ℕ) → HasPlace m.hosts host → Good s →
      Part most s (answers_version_is m host poll s)
  tells_goes most s host poll there good =
      shows db m most s _ good (one_silent m inside host (body.VersionIs poll s.version) there (tt, (good.version, tt)))

  pub version_set_goes : (s : Server) (host : Host) (poll : ℕ) (old new : Version) → IsVersion new → HasPlace m.hosts host → Good s →
      Part 1 s (set_version_received m s host poll old new)
  version_set_goes s host poll old new is there good =
      cond_both (is_sending s.phase) _ _ (Part 1 s) (λ _. rests db m 1 s good)
      (λ idle. cond_both (version_eq s.version new) _ _ (Part 1 s) (λ _. kept_goes 1 s host there good)
      (λ _. cond_both (version_eq s.version old && version_lt old new) _ _ (Part 1 s)
      (λ rises. follows db m 1 0 s (relabelled_by s new) (answers_version_kept m host)
      (makes db m s (with_database s new s.image) (record { call = durables.Relabel new; reason = Received }) [] refl refl
      (record { version = is; later = above_first old new (and_both (version_eq s.version old) (version_lt old new) rises).1 })
      (database_keeps db (cell_size m) s new s.image (idle_flight db (cell_size m) s idle good) is good) tt)
      (λ after. kept_goes 0 (with_database s new s.image) host there after))
      (λ _. tells_goes 1 s host poll there good)))

  text_goes : (s : Server) (host : Host) (poll : ℕ) (text : Option ReceivedText) → s.flight ≡ None → IsReceived text → IsLaterText text →
      HasPlace m.hosts host → Good s → Part 1 s (text_went_on m s host poll text)
  text_goes s host poll None none is later there good = rests db m 1 s good
  text_goes s host poll (Some text) none is later there good =
      cond_both (is_whole text) _ _ (Part 1 s)
      (λ _. follows db m 1 0 s (installed s text.version text.bytes) (answers_version_kept m host)
      (installed_goes db m now inside moment s text.version text none (record { version = is.version; later = later }) is good)
      (λ after. kept_goes 0 (with_database s text.version text.bytes) host there after))
      (λ _. turns db m 1 s (record s { received = Some text }) _ refl refl (received_keeps db (cell_size m) s text is good)
      (one_silent m inside host (body.PieceKept poll text.version (length text.bytes)) there (tt, (is.version, (tt, tt)))))

  pub piece_taken_goes : (s : Server) (host : Host) (k poll : ℕ) (version : Version) (total at : ℕ) (bytes : List ℕ) → IsVersion version →
      HasPlace m.hosts host → Good s → Part 1 s (send_piece_received m s host k poll version total at bytes)
  piece_taken_goes s host k poll version total at bytes is there good =
      cond_both (is_sending s.phase || is_fetch s.phase) _ _ (Part 1 s) (λ _. rests db m 1 s good)
      (λ idle. cond_both (version_eq s.version version) _ _ (Part 1 s) (λ _. kept_goes 1 s host there good)
      (λ other. cond_both (version_lt version s.version) _ _ (Part 1 s) (λ _. tells_goes 1 s host poll there good)
      (λ not_lower. text_goes s host poll (text_with true k version total at bytes s.received)
      (idle_flight db (cell_size m) s (or_none (is_sending s.phase) (is_fetch s.phase) idle).0 good)
      (text_is true k version total at bytes s.received is good.received)
      (text_later true k version total at bytes s.received (not_first s.version version other not_lower)) there good)))

  pub piece_asked_goes : (s : Server) (host : Host) (poll : ℕ) (version : Version) (at : ℕ) → IsVersion version → HasPlace m.hosts host →
      Good s → Part 1 s (get_piece_received m s host poll version at)
  piece_asked_goes s host poll version at is there good =
      cond_both (version_eq s.version version && (at == 0 || nat_lt at (length s.image))) _ _ (Part 1 s)
      (λ _. shows db m 1 s _ good
      (one_silent m inside host (body.Piece poll version (length s.image) at (piece_from s.image at)) there
      (tt, (is, (tt, (tt, (piece_short s.image at, tt)))))))
      (λ _. tells_goes 1 s host poll there good)

  -- ---- a write of another server

  keeping_goes : (most : ℕ) (s : Server) (kept : Option KeptWrite) → IsKept kept → Good s → Part most s (quiet (record s { kept = kept }))
  keeping_goes most s kept is good =
      turns db m most s (record s { kept = kept }) [] refl refl (kept_keeps db (cell_size m) s kept is good) tt

  pub begin_goes : (s : Server) (old new : Version) (pieces len : ℕ) → IsVersion old → IsVersion new → Good s →
      Part 1 s (begin_received s old new pieces len)
  begin_goes s old new pieces len before after good =
      cond_both (is_sending s.phase) _ _ (Part 1 s) (λ _. rests db m 1 s good)
      (λ _. cond_both (version_eq s.version old && version_lt old new && nat_le pieces MAX_PIECES) _ _ (Part 1 s)
      (λ rises. keeping_goes 1 s (Some (empty_write old new pieces len)) (begun rises) good) (λ _. rests db m 1 s good))
    where
      few : (n : ℕ) → nat_le n MAX_PIECES ≡ true → n ≤ MAX_PIECES
      few n is = grind (arith, nat_tests)

      begun : (version_eq s.version old && version_lt old new && nat_le pieces MAX_PIECES) ≡ true → IsKept (Some (empty_write old new pieces len))
      begun rises =
          let all = and_both (version_eq s.version old && version_lt old new) (nat_le pieces MAX_PIECES) rises in
          begun_is old new pieces len before after (and_both (version_eq s.version old) (version_lt old new) all.0).1 (few pieces all.1)

  pub put_goes : (s : Server) (new : Version) (number : ℕ) (bytes : List ℕ) → length bytes ≤ MAX_PIECE → Good s →
      Part 1 s (put_piece_received s new number bytes)
  put_goes s new number bytes short good =
      cond_both (is_sending s.phase) _ _ (Part 1 s) (λ _. rests db m 1 s good)
      (λ _. keeping_goes 1 s (kept_with new number bytes s.kept) (kept_with_is new number bytes s.kept short good.kept) good)

  taken_goes : (s : Server) (host : Host) (new : Version) (changes : Option (List Change)) → s.flight ≡ None → IsVersion new →
      whole_write new s.kept ≡ changes → HasPlace m.hosts host → Good s → Part 1 s (write_taken m s host new changes)
  taken_goes s host new None none is whole there good = rests db m 1 s good
  taken_goes s host new (Some changes) none is whole there good =
      cond_both (is_none (too_large 0 (length s.image) changes)) _ _ (Part 1 s)
      (λ small. follows db m 1 0 s (committed_by s new changes) (answers_version_kept m host)
      (makes db m s after (record { call = durables.Commit new kept (effect s.image kept); reason = Received }) [] refl refl
      (whole_later new s.kept changes is whole good.kept, logged_small 0 (length s.image) changes (no (too_large 0 (length s.image) changes) small))
      (database_keeps db (cell_size m) s new (effect s.image kept) none is good) tt)
      (λ then. kept_goes 0 after host there then))
      (λ _. rests db m 1 s good)
    where
      kept : List Change
      kept = logged (length s.image) changes

      after : Server
      after = with_database s new (effect s.image (logged (length s.image) changes))

      no : (o : Option ℕ) → is_none o ≡ true → o ≡ None
      no None is = refl
      no (Some n) is = absurd (cc)

  pub commit_goes : (s : Server) (host : Host) (old new : Version) → IsVersion new → HasPlace m.hosts host → Good s →
      Part 1 s (commit_received m s host old new)
  commit_goes s host old new is there good =
      cond_both (is_sending s.phase) _ _ (Part 1 s) (λ _. rests db m 1 s good)
      (λ idle. cond_both (version_eq s.version new) _ _ (Part 1 s) (λ _. kept_goes 1 s host there good)
      (λ _. cond_both (version_eq s.version old) _ _ (Part 1 s)
      (λ _. taken_goes s host new (whole_write new s.kept) (idle_flight db (cell_size m) s idle good) is refl there good)
      (λ _. rests db m 1 s good)))

  pub abort_goes : (s : Server) (new : Version) → Good s → Part 1 s (abort_received s new)
  abort_goes s new good =
      cond_both (is_sending s.phase) _ _ (Part 1 s) (λ _. rests db m 1 s good)
      (λ _. keeping_goes 1 s (kept_but new s.kept) (kept_but_is new s.kept good.kept) good)

  -- ---- votes

  pub beacon_goes : (s : Server) (host : Host) (k start : ℕ) (claim ready : Bool) (version : Version) → HasPlace m.hosts host → Good s →
      Part 2 s (beacon_received m s now host k start claim ready version)
  beacon_goes s host k start claim ready version there good =
      turns db m 2 s (beacon_received m s now host k start claim ready version).server _ refl refl
      (record {
        version = good.version;
        phase = good.phase;
        received = good.received;
        kept = good.kept;
        flight = good.flight;
        line = good.line;
      })
      (one_silent m inside host (body.Vote start (answers_yes s.votes now k claim)) there (tt, (tt, tt)))

  pub vote_goes : (s : Server) (k start : ℕ) (granted : Bool) → Good s → Part 2 s (vote_received m s k start granted)
  vote_goes s k start granted good =
      turns db m 2 s (vote_received m s k start granted).server [] refl refl
      (record {
        version = good.version;
        phase = good.phase;
        received = good.received;
        kept = good.kept;
        flight = good.flight;
        line = good.line;
      }) tt

  own_bounded : (s : Server) (claim : Bool) → Good s → IsBoundedBody (own_beacon s now claim)
  own_bounded s claim good = (tt, (tt, (tt, (told, tt))))
    where
      told : IsVersion (cond (claim && is_ready s.phase) (told_version s.phase s.version) s.version)
      told =
          cond_both (claim && is_ready s.phase) (told_version s.phase s.version) s.version IsVersion
          (λ _. told_is (cell_size m) s.phase s.version good.phase good.version) (λ _. good.version)

  pub beacon_turn_goes : (s : Server) → Good s → Part 2 s (beacon_turn m s now)
  beacon_turn_goes s good =
      cond_both (beacon_is_due s.votes now m.me (leased m s now)) _ _ (Part 2 s)
      (λ _. turns db m 2 s (beacon_taken m s now (leased m s now)).server _ refl refl
      (record {
        version = good.version;
        phase = good.phase;
        received = good.received;
        kept = good.kept;
        flight = good.flight;
        line = good.line;
      })
      (each_silent m inside (λ k. own_beacon s now (leased m s now) ∷ []) (λ k. (own_bounded s (leased m s now) good, tt))))
      (λ _. rests db m 2 s good)
