-- The database of the examples: a register of a byte. A call of no bytes reads it; another call puts its first byte there (own).
use Rattle.std.specs.Prelude.{ℕ, ◌≡◌, ◌≤◌, Bool, true, false, Some, List, [], ◌∷◌, drop, length}
use Rattle.db_image.specs.declared.services.CallReply.TheVariants as call_reply
use Rattle.db_image.specs.Database.{Database, Outcome}
use Rattle.db_image.specs.Standing.{Standing}

abbrev pub has_bytes : List ℕ → Bool
has_bytes [] = false
has_bytes (_ ∷ _) = true

abbrev pub register_call : List ℕ → ℕ → List ℕ → Outcome
register_call image now [] = record { reply = call_reply.Done image; image = image }
register_call image now (byte ∷ bytes) = record { reply = call_reply.Done []; image = byte ∷ drop 1 image }

abbrev pub register : Database
register = record { writes = λ call. Some (has_bytes call); call = register_call; head = 1; block = 1 }

-- Its states are the images of a byte or none. An image of more bytes stands for no state, and no call makes one of a state.
abbrev pub one_byte : Standing
one_byte =
    record {
      State = List ℕ;
      meaning = record {
        first = [];
        call = λ s now call. let o = register_call s now call in record { reply = o.reply; state = o.image };
      };
      StandsFor = λ image s. (image ≡ s) × (length s ≤ 1);
      database = register;
    }
