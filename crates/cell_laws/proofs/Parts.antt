-- What holds of a server between the parts of a step, and what its durable calls may do to its epoch.
use Rattle.std.proofs.Common.{Bool, true, false, true≢false, cond, ◌==◌, ◌≡◌, ℕ, ◌<◌, ◌≤◌, List, [], ◌∷◌, ◌++◌, length, refl, sym, ap}
use Rattle.std.proofs.Common.{subst, ◌∙◌, arith}
use Rattle.std.proofs.lemmas.Bool.{cond_both}
use Rattle.std.proofs.lemmas.Bool.Decides.{nat_tests}
use Rattle.std.specs.Prelude.{Option, Some, None, ◌&&◌, ◌||◌, nat_lt}
use Rattle.ubik_types.specs.declared.images.Change.{Change}
use Rattle.ubik_types.specs.declared.versions.Version.{Version}
use Rattle.ubik_types.specs.Lease.{is_in_lease}
use Rattle.ubik_types.specs.Phase.{PhaseRecord, NoPhase}
use Rattle.ubik_types.specs.Version.{version_lt, version_eq}
use Rattle.ubik_types.specs.Votes.{VoteState}
use Rattle.cell_model.specs.Durable.{Made, Reason, Own_relabelling, Committed, Received, version_after}
use Rattle.cell_model.specs.Node.{Server, KeptWrite, ReceivedText}
use Rattle.cell_model.specs.Receiver.{kept_with, whole_changes, whole_write, kept_but}
use Rattle.cell_model.specs.Recovery.{piece_fits, text_begun, continues, text_continued, text_with}
use Rattle.cell_model.specs.Step.{Member, cell_size, Stepped}
use Rattle.cell_laws.specs.Invariant.{KeptRises, Claims}
use Rattle.cell_laws.proofs.Others.{AllOther}

-- what its votes and its lease are made of
pub record Ballot : Type 0 where
  pub votes : VoteState
  pub starts : List (Option ℕ)

abbrev pub ballot_of : Server → Ballot
ballot_of s = record { votes = s.votes; starts = s.starts }

abbrev pub is_held : PhaseRecord → Bool
is_held NoPhase = false
is_held _ = true

-- What may happen to the epoch of a server in a durable call: it relabels in its lease, and makes its clock the epoch; it commits
-- in an epoch that it may claim; or it takes over what is no older.
abbrev pub IsLegalCall : Type 0 → (ℕ → Type 0) → ℕ → Version → Version → Reason → Type 0
IsLegalCall Lease Claim now v new Own_relabelling = (v.epoch < new.epoch) × (new.epoch ≡ now) × Lease
IsLegalCall Lease Claim now v new (Committed t) = (new.epoch ≡ v.epoch) × Claim v.epoch
IsLegalCall Lease Claim now v new Received = v.epoch ≤ new.epoch

-- durable calls that lead from one version to another
abbrev pub AreLegal : Type 0 → (ℕ → Type 0) → ℕ → Version → List Made → Version → Type 0
AreLegal Lease Claim now v [] last = v ≡ last
AreLegal Lease Claim now v (made ∷ calls) last =
    IsLegalCall Lease Claim now v (version_after made.call) made.reason × AreLegal Lease Claim now (version_after made.call) calls last

pub legal_append : (Lease : Type 0) (Claim : ℕ → Type 0) (now : ℕ) (v middle last : Version) (calls more : List Made) →
    AreLegal Lease Claim now v calls middle → AreLegal Lease Claim now middle more last → AreLegal Lease Claim now v (calls ++ more) last
legal_append Lease Claim now v middle last [] more first second =
    subst (λ (u : Version). AreLegal Lease Claim now u more last) (sym first) second
legal_append Lease Claim now v middle last (made ∷ calls) more first second =
    (first.0, legal_append Lease Claim now (version_after made.call) middle last calls more first.1 second)

-- the server in the midst of a step: the votes are those from before; a phase is held in the lease alone
pub record Fit (m : Member) (now : ℕ) (b : Ballot) (Claim : ℕ → Type 0) (s : Server) : Type 0 where
  pub ballot : ballot_of s ≡ b
  pub held : is_held s.phase ≡ true → is_in_lease (cell_size m) b.starts now ≡ true
  pub claims : Claims Claim s

-- a step that leaves the votes
pub record Rests (m : Member) (now : ℕ) (b : Ballot) (Claim : ℕ → Type 0) (s : Server) (t : Stepped) : Type 0 where
  pub fit : Fit m now b Claim t.server
  pub other : AllOther t.shown
  pub legal : AreLegal (is_in_lease (cell_size m) b.starts now ≡ true) Claim now s.version t.calls t.server.version

pub lt_true : (a b : ℕ) → nat_lt a b ≡ true → a < b
lt_true a b is = grind (arith, nat_tests)

pub lt_false : (a b : ℕ) → nat_lt a b ≡ false → b ≤ a
lt_false a b is = grind (arith, nat_tests)

pub eq_true : (a b : ℕ) → (a == b) ≡ true → a ≡ b
eq_true a b is = grind (arith, nat_tests)

pub and_both : (a b : Bool) → (a && b) ≡ true → (a ≡ true) × (b ≡ true)
and_both true b is = (refl, is)
and_both false b is = absurd (cc)

pub or_none : (a b : Bool) → (a || b) ≡ false → (a ≡ false) × (b ≡ false)
or_none true b is = absurd (cc)
or_none false b is = (refl, is)

-- versions that rise
pub lt_rises : (a b : Version) → version_lt a b ≡ true → a.epoch ≤ b.epoch
lt_rises a b is = by (nat_lt a.epoch b.epoch) refl is
  where
    by : (t : Bool) → nat_lt a.epoch b.epoch ≡ t → (t || ((a.epoch == b.epoch) && nat_lt a.counter b.counter)) ≡ true → a.epoch ≤ b.epoch
    by true less is = let h : a.epoch < b.epoch = lt_true _ _ less in omega arith
    by false less is = let h : a.epoch ≡ b.epoch = eq_true _ _ (and_both (a.epoch == b.epoch) _ is).0 in omega arith

pub not_lt_rises : (a b : Version) → version_lt a b ≡ false → b.epoch ≤ a.epoch
not_lt_rises a b is = lt_false _ _ (or_none (nat_lt a.epoch b.epoch) _ is).0

pub eq_epoch : (a b : Version) → version_eq a b ≡ true → a.epoch ≡ b.epoch
eq_epoch a b is = eq_true _ _ (and_both (a.epoch == b.epoch) _ is).0

pub no : {A : Type 0} → false ≡ true → A
no is = absurd (true≢false (sym is))

pub and_three : (a b c : Bool) → (a && b && c) ≡ true → (a ≡ true) × (b ≡ true)
and_three true true c is = (refl, refl)
and_three true false c is = no is
and_three false b c is = no is

-- the text with a piece is of the version of that piece
pub text_version : (may_begin : Bool) (k : ℕ) (version : Version) (total at : ℕ) (bytes : List ℕ) (held : Option ReceivedText)
    (one : ReceivedText) → text_with may_begin k version total at bytes held ≡ Some one → one.version.epoch ≡ version.epoch
text_version may_begin k version total at bytes held one is = fits (piece_fits total at bytes) is
  where
    continued : (held : Option ReceivedText) → text_continued k version total at bytes held ≡ Some one → one.version.epoch ≡ version.epoch
    continued None is = absurd (cc)
    continued (Some text) is = by (continues k version total at text) refl is
      where
        by : (t : Bool) → continues k version total at text ≡ t →
            cond t (Some (record text { bytes = text.bytes ++ bytes })) None ≡ Some one → one.version.epoch ≡ version.epoch
        by true goes is =
            let same : record text { bytes = text.bytes ++ bytes } ≡ one = cc in
            let epoch : text.version.epoch ≡ version.epoch =
            eq_epoch text.version version
            (and_three (text.server == k) (version_eq text.version version) (text.total == total) (and_both _ _ goes).0).1 in
            ap (λ (z : ReceivedText). z.version.epoch) (sym same) ∙ epoch
        by false goes is = absurd (cc)

    begun : (t : Bool) → cond t (Some (text_begun k version total bytes)) None ≡ Some one → one.version.epoch ≡ version.epoch
    begun true is = let same : text_begun k version total bytes ≡ one = cc in ap (λ (z : ReceivedText). z.version.epoch) (sym same)
    begun false is = absurd (cc)

    starts : (t : Bool) →
        cond t (cond may_begin (Some (text_begun k version total bytes)) None) (text_continued k version total at bytes held) ≡ Some one →
        one.version.epoch ≡ version.epoch
    starts true is = begun may_begin is
    starts false is = continued held is

    fits : (t : Bool) →
        cond t
        (cond (at == 0) (cond may_begin (Some (text_begun k version total bytes)) None) (text_continued k version total at bytes held)) None
        ≡ Some one → one.version.epoch ≡ version.epoch
    fits true is = starts (at == 0) is
    fits false is = absurd (cc)

-- what becomes of a kept write
pub piece_rises : (v new : Version) (number : ℕ) (bytes : List ℕ) (kept : Option KeptWrite) → KeptRises v kept →
    KeptRises v (kept_with new number bytes kept)
piece_rises v new number bytes None rises = tt
piece_rises v new number bytes (Some w) rises =
    cond_both (version_eq w.new new && nat_lt number (length w.pieces)) _ _ (λ (w : KeptWrite). v.epoch ≤ w.new.epoch) (λ _. rises)
    (λ _. rises)

pub but_rises : (v new : Version) (kept : Option KeptWrite) → KeptRises v kept → KeptRises v (kept_but new kept)
but_rises v new None rises = tt
but_rises v new (Some w) rises = cond_both (version_eq w.new new) _ _ (KeptRises v) (λ _. tt) (λ _. rises)

pub whole_rises : (v new : Version) (kept : Option KeptWrite) (one : List Change) → whole_write new kept ≡ Some one → KeptRises v kept →
    v.epoch ≤ new.epoch
whole_rises v new None one is rises = absurd (cc)
whole_rises v new (Some w) one is rises = by (version_eq w.new new) refl is
  where
    by : (t : Bool) → version_eq w.new new ≡ t → cond t (whole_changes w) None ≡ Some one → v.epoch ≤ new.epoch
    by true same is = let e : w.new.epoch ≡ new.epoch = eq_epoch w.new new same in omega arith
    by false same is = absurd (cc)
