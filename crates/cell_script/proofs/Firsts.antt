-- Lines of one argument, by their first words.
use Rattle.std.proofs.Common.{◌≡◌, ◌∙◌, true, false, ap, sym, ℕ, List, Option, Some, None, Bool, cond, Result, refl}
use Rattle.std.specs.Prelude.{codes, option_map}
use Rattle.std.specs.Option.{option_or}
use Rattle.std.specs.Str.{bytes_eq}
use Rattle.std.proofs.lemmas.Slice.Eq.{bytes_eq-Decides}
use Rattle.script_words.specs.Numbers.{number_of, number_within}
use Rattle.cell_script.specs.Meaning.{or_number, server_of, line_of_server, line_of_packet, with_number, or_syntax, line_of_one}
use Rattle.cell_script.specs.declared.lines.TheConstants.{MAX_TICK}
use Rattle.cell_script.specs.declared.lines.Line.{Line}
use Rattle.cell_script.specs.declared.lines.Line.TheVariants as line
use Rattle.cell_script.specs.declared.lines.Why.{Why}

is_false : (b : Bool) → (b ≡ true → ⊥) → b ≡ false
is_false true differs = absurd (differs refl)
is_false false differs = refl

-- a word that is not this one is told apart
pub other_word : (first word : List ℕ) → (first ≡ word → ⊥) → bytes_eq first word ≡ false
other_word first word differs = is_false (bytes_eq first word) (λ same. differs ((bytes_eq-Decides first word).0 same))

none_second : (a : Option (Result Line Why)) → option_or a None ≡ a
none_second None = refl
none_second (Some r) = refl

-- what is neither a tick nor names a packet is a line that names a server
pub other_one : (first a : List ℕ) {r : Result Line Why} → bytes_eq first (codes "tickall") ≡ false → line_of_packet first ≡ None →
    r ≡ or_syntax (with_number (line_of_server first) (server_of a)) → r ≡ line_of_one first a
other_one first a no_tick no_packet is =
    let others : option_or (with_number (line_of_server first) (server_of a)) (with_number (line_of_packet first) (number_of a))
    ≡ with_number (line_of_server first) (server_of a) =
    ap (λ p. option_or (with_number (line_of_server first) (server_of a)) (with_number p (number_of a))) no_packet
    ∙ none_second (with_number (line_of_server first) (server_of a)) in
    let one : line_of_one first a ≡ or_syntax (option_or (with_number (line_of_server first) (server_of a)) (with_number (line_of_packet first) (number_of a))) =
    ap (λ (b : Bool). cond b (or_number (option_map line.TickAll (number_within 1 MAX_TICK a)))
    (or_syntax (option_or (with_number (line_of_server first) (server_of a)) (with_number (line_of_packet first) (number_of a))))) no_tick in
    is ∙ sym (one ∙ ap or_syntax others)
