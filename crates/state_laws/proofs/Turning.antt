-- After the turn of a writing call no write can begin, or the call was only replied to.
use Rattle.std.proofs.Common.{◌≡◌, ◌<◌, ◌≤◌, ◌+◌, ◌/◌, inl, inr, ℕ, zero, suc, Bool, true, false, cond, eqb, Option, Some, None, List, [], ◌∷◌, length, replicate, refl, ap, arith}
use Rattle.std.proofs.lemmas.Bool.Decides.{nat_tests}
use Rattle.std.proofs.lemmas.List.Sums.{sum_by-cons}
use Rattle.ubik_types.specs.declared.images.Change.{Change}
use Rattle.ubik_types.specs.Logged.{too_large}
use Rattle.ubik_types.specs.Phase.{PhaseRecord, Ready}
use Rattle.ubik_types.specs.Quorum.{is_majority, size}
use Rattle.db_image.specs.declared.services.CallReply.{CallReply}
use Rattle.db_image.specs.declared.services.CallReply.TheVariants as call_reply
use Rattle.db_image.specs.Database.{Database, changes_of}
use Rattle.cell_model.specs.Node.{Server}
use Rattle.cell_model.specs.Polls.{only_at}
use Rattle.cell_model.specs.Step.{Member, cell_size}
use Rattle.cell_model.specs.Writes.{is_free_in, last_counter, turned, write_turn, written_in, written_within}
use Rattle.state_laws.specs.Over.{IsTurn}

-- ---- who has the version after a commit

size-cons : (a : Bool) (set : List Bool) → size (a ∷ set) ≡ cond a 1 0 + size set
size-cons a set = sum_by-cons (λ (marked : Bool). cond marked 1 0) a set

none_has : (n : ℕ) → size (replicate n false) ≡ 0
none_has zero = refl
none_has (suc n) = omega (arith, size-cons false (replicate n false), none_has n)

one_has : (n me : ℕ) → size (only_at true false n me) ≤ 1
one_has zero me = omega arith
one_has (suc n) zero = omega (arith, size-cons true (replicate n false), none_has n)
one_has (suc n) (suc me) = omega (arith, size-cons false (only_at true false n me), one_has n me)

-- one of several is no majority
pub one_is_few : (n me : ℕ) → 1 < n → is_majority n (only_at true false n me) ≡ false
one_is_few n me more =
    let few : size (only_at true false n me) < n / 2 + 1 = omega (arith, one_has n me) in
    grind (arith, nat_tests)

-- ---- a turn

module _ (m : Member) (s : Server) (now id : ℕ) (call : List ℕ) (others : 1 < cell_size m) where
  written_turns : (answer image : List ℕ) (changes : List Change) (p : PhaseRecord) → s.phase ≡ p
      → IsTurn s (written_in m s now id call answer image changes p)
  written_turns answer image changes (Ready poll spread announced) is = inl (let few = one_is_few (cell_size m) m.me others in rw few refl)
  written_turns answer image changes other is = inl (ap (λ (p : PhaseRecord). is_free_in p s.flight) is)

  counted_turns : (answer image : List ℕ) (changes : List Change) (b : Bool)
      → IsTurn s (cond b (last_counter m s now id) (written_in m s now id call answer image changes s.phase))
  counted_turns answer image changes true = inl refl
  counted_turns answer image changes false = written_turns answer image changes s.phase refl

  small_turns : (answer image : List ℕ) (changes : List Change) (o : Option ℕ)
      → IsTurn s (written_within m s now id call answer image changes o)
  small_turns answer image changes (Some bytes) = inr (refl, refl, refl)
  small_turns answer image [] None = inr (refl, refl, refl)
  small_turns answer image (change ∷ changes) None = counted_turns answer image (change ∷ changes) (eqb s.version.counter 2147483647)

  replied_turns : (db : Database) (image : List ℕ) (r : CallReply) → IsTurn s (turned db m s now id call image r)
  replied_turns db image (call_reply.Done answer) =
      small_turns answer image (changes_of db s.image image) (too_large 0 (length s.image) (changes_of db s.image image))
  replied_turns db image other = inr (refl, refl, refl)

  pub turn_is : (db : Database) (short : Bool) → IsTurn s (write_turn db m s now id call short)
  turn_is db true = inr (refl, refl, refl)
  turn_is db false = replied_turns db (db.call s.image now call).image (db.call s.image now call).reply
