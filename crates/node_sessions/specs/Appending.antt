-- A small database, which the tests serve: each call answers the image and appends its bytes to it.
use Rattle.std.specs.Prelude.{◌≡◌, ◌≢◌, ◌≤◌, ℕ, Bool, true, false, List, [], ◌∷◌, ◌++◌, ◌==◌, if◌then◌else◌, not, nat_lt, length, Some, None}
use Rattle.std.proofs.Common.{ap, append-nil, cond, refl, sym, ◌∙◌, arith, length-append}
use Rattle.std.proofs.lemmas.Bool.{ne_eqb}
use Rattle.db_image.specs.declared.services.CallReply.TheVariants as reply
use Rattle.db_image.specs.Database.{Outcome}
use Rattle.db_image.specs.Ends.{KeepsGrammar, end_of}
use Rattle.db_image.specs.Standing.{Standing, IsMeantOver}

-- by whether the call is too long, and the image
abbrev pub appended_by : (long_call long_image : Bool) → (image call : List ℕ) → Outcome
appended_by true long_image image call = record { reply = reply.Malformed; image = image }
appended_by false true image call = record { reply = reply.Rule 7; image = image }
appended_by false false image call = record { reply = reply.Done image; image = image ++ call }

-- no call has more than 2,097,152 bytes, and no answer more than 1,048,576
abbrev pub appended : (image call : List ℕ) → Outcome
appended image call = appended_by (nat_lt 2097152 (length call)) (nat_lt 1048576 (length image)) image call

-- a call without bytes changes nothing; the states are the images
abbrev pub appending : Standing
appending =
    record {
      State = List ℕ;
      meaning = record { first = []; call = λ s now call. record { reply = (appended s call).reply; state = (appended s call).image } };
      StandsFor = λ image s. image ≡ s;
      database =
          record {
            writes = λ call. if nat_lt 2097152 (length call) then None else Some (not (length call == 0));
            call = λ image now call. appended image call;
            head = 4;
            block = 4096;
          };
    }

-- ---- laws

never_bad : (a b : Bool) (image call : List ℕ) (at : ℕ) → (appended_by a b image call).reply ≢ reply.BadRecord at
never_bad true b image call at is = absurd cc
never_bad false true image call at is = absurd cc
never_bad false false image call at is = absurd cc

grows_by : (a b : Bool) (image call : List ℕ) → length image ≤ length (appended_by a b image call).image
grows_by true b image call = omega arith
grows_by false true image call = omega arith
grows_by false false image call = omega (arith, length-append image call)

pub appending_grows : (image : List ℕ) (now : ℕ) (call : List ℕ) → length image ≤ length (appending.database.call image now call).image
appending_grows image now call = grows_by (nat_lt 2097152 (length call)) (nat_lt 1048576 (length image)) image call

pub appending_is_meant : (image s : List ℕ) (now : ℕ) (call : List ℕ) → image ≡ s
    → IsMeantOver appending image s (appending.database.call image now call) (appending.meaning.call s now call)
appending_is_meant image s now call stands = record {
  reply = ap (λ (i : List ℕ). (appended i call).reply) stands;
  good = never_bad (nat_lt 2097152 (length call)) (nat_lt 1048576 (length s)) s call;
  stands = ap (λ (i : List ℕ). (appended i call).image) stands;
  stays = λ same. ap (λ (i : List ℕ). (appended i call).image) stands ∙ same ∙ sym stands;
}

keeps_by : (a b : Bool) (image call : List ℕ)
    → KeepsGrammar (cond a None (Some (not (length call == 0)))) (end_of (appended_by a b image call).reply)
keeps_by true b image call = refl
keeps_by false true image call = refl
keeps_by false false image call = refl

pub appending_keeps_grammar : (image : List ℕ) (now : ℕ) (call : List ℕ)
    → KeepsGrammar (appending.database.writes call) (end_of (appending.database.call image now call).reply)
appending_keeps_grammar image now call = keeps_by (nat_lt 2097152 (length call)) (nat_lt 1048576 (length image)) image call

rests_by : (a b : Bool) (image call : List ℕ) → cond a None (Some (not (length call == 0))) ≢ Some true
    → (appended_by a b image call).image ≡ image
rests_by true b image call reads = refl
rests_by false true image call reads = refl
rests_by false false image [] reads = append-nil image
rests_by false false image (first ∷ bytes) reads =
    let none : (length (first ∷ bytes) == 0) ≡ false = ne_eqb (length (first ∷ bytes)) 0 (λ none. omega arith) in
    absurd (reads (ap (λ (b : Bool). Some (not b)) none))

pub only_appending_changes : (image : List ℕ) (now : ℕ) (call : List ℕ) → appending.database.writes call ≢ Some true
    → (appending.database.call image now call).image ≡ image
only_appending_changes image now call reads = rests_by (nat_lt 2097152 (length call)) (nat_lt 1048576 (length image)) image call reads
