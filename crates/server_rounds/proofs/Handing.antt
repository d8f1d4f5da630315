-- What a worker's record is after it has handed over what was left.
use Rattle.std.specs.Prelude.{◌≡◌, ◌≢◌, ℕ, ◌<◌, ◌+◌, MatchOption, Option, None, Some, List, [], ◌∷◌, ◌++◌, length, option_map, IfSome, refl}
use Rattle.std.proofs.Common.{sym, ◌∙◌, ap, append_assoc, arith, length-append, subst}
use Rattle.std.proofs.lemmas.List.{append-nil}
use Rattle.server_rounds.specs.declared.posts.Next.{Next}
use Rattle.server_rounds.specs.declared.posts.Next.TheVariants as next
use Rattle.server_rounds.specs.declared.records.Made.{Made}
use Rattle.server_rounds.specs.declared.records.Record.{Record}
use Rattle.server_rounds.specs.declared.records.Round.{Round}
use Rattle.server_rounds.specs.declared.rounds.RoundEnd.TheVariants as round_end
use Rattle.server_rounds.specs.declared.sendings.Sending.{Sending}
use Rattle.server_rounds.specs.declared.turns.Turn.{Turn}
use Rattle.server_rounds.specs.declared.turns.TurnEnd.{TurnEnd}
use Rattle.server_rounds.specs.declared.turns.TurnEnd.TheVariants as turn_end
use Rattle.server_rounds.specs.Round.{AddsRound, AreLeft, HasLeft, HasMore, IsAfter, IsFewer, LatestHasLeft, LatestHasMore, after_hand, after_hands, after_next, after_turn, with_handed}

-- the latest round then has them all, behind what was handed over before
pub hands_all : (sendings : List Sending) (last : Option Next) (round : Round) (earlier : List Round)
    → after_hands sendings (record { last = last; rounds = round ∷ earlier })
    ≡ record { last = last; rounds = record round { handed = round.handed ++ sendings } ∷ earlier }
hands_all [] last round earlier =
    let f : List Sending → Record = λ h. record { last = last; rounds = record round { handed = h } ∷ earlier } in
    ap f (sym (append-nil round.handed))
hands_all (sending ∷ sendings) last round earlier =
    let f : List Sending → Record = λ h. record { last = last; rounds = record round { handed = h } ∷ earlier } in
    hands_all sendings last (record round { handed = round.handed ++ sending ∷ [] }) earlier
    ∙ ap f (append_assoc round.handed (sending ∷ []) sendings)

fewer_left : (sending : Sending) (sendings handed : List Sending) (made : Option Made) → AreLeft (sending ∷ sendings) handed made → IsFewer handed made
fewer_left sending sendings handed None left = absurd left
fewer_left sending sendings handed (Some made) left =
    let lengths = ap length left in
    omega (arith, lengths, length-append handed (sending ∷ sendings))

latest_more : (sending : Sending) (sendings : List Sending) (rounds : List Round) → LatestHasLeft (sending ∷ sendings) rounds → LatestHasMore rounds
latest_more sending sendings [] left = absurd left
latest_more sending sendings (round ∷ earlier) left = fewer_left sending sendings round.handed round.made left

-- where one is left, one may be handed over
pub more_left : (sending : Sending) (sendings : List Sending) (told : Option Record) → IfSome told (HasLeft (sending ∷ sendings)) → IfSome told HasMore
more_left sending sendings None left = tt
more_left sending sendings (Some r) left = latest_more sending sendings r.rounds left

left_next : (sending : Sending) (sendings handed : List Sending) (made : Option Made) → AreLeft (sending ∷ sendings) handed made → AreLeft sendings (handed ++ sending ∷ []) made
left_next sending sendings handed None left = left
left_next sending sendings handed (Some made) left = append_assoc handed (sending ∷ []) sendings ∙ left

latest_next : (sending : Sending) (sendings : List Sending) (rounds : List Round) → LatestHasLeft (sending ∷ sendings) rounds → LatestHasLeft sendings (with_handed sending rounds)
latest_next sending sendings [] left = left
latest_next sending sendings (round ∷ earlier) left = left_next sending sendings round.handed round.made left

-- and then the others are left
pub left_behind : (sending : Sending) (sendings : List Sending) (told : Option Record) → IfSome told (HasLeft (sending ∷ sendings)) → IfSome (option_map (after_hand sending) told) (HasLeft sendings)
left_behind sending sendings None left = tt
left_behind sending sendings (Some r) left = latest_next sending sendings r.rounds left

-- one handed over, and then the others, is all of them
pub hands_next : (sending : Sending) (sendings : List Sending) (told : Option Record)
    → option_map (after_hands sendings) (option_map (after_hand sending) told) ≡ option_map (after_hands (sending ∷ sendings)) told
hands_next sending sendings None = refl
hands_next sending sendings (Some r) = refl

-- a round in which a turn was given and made, and all that it left was handed over
pub whole : (told taken made handed : Option Record) (now : ℕ) (turn : Turn) (end : TurnEnd) (gives : List Sending)
    → taken ≡ option_map (after_next (next.Turn now turn)) told
    → made ≡ option_map (after_turn now turn end gives) taken
    → handed ≡ option_map (after_hands gives) made
    → MatchOption told (handed ≡ None) (λ before. IfSome handed (AddsRound end before))
whole None taken made handed now turn end gives p q r =
    r ∙ ap (option_map (after_hands gives)) (q ∙ ap (option_map (after_turn now turn end gives)) p)
whole (Some before) taken made handed now turn end gives p q r =
    let P : Option Record → Type 0 = λ t. IfSome t (AddsRound end before) in
    subst P (sym (r ∙ ap (option_map (after_hands gives)) (q ∙ ap (option_map (after_turn now turn end gives)) p))) (
      now,
      turn,
      gives,
      hands_all gives (Some (next.Turn now turn))
          (record { now = now; turn = turn; made = Some (record { now = now; turn = turn; end = end; gives = gives }); handed = [] }) before.rounds,
    )

-- the same, of a turn that did not end with Done
pub stopped : (told taken made handed : Option Record) (now : ℕ) (turn : Turn) (end : TurnEnd) (gives : List Sending)
    → taken ≡ option_map (after_next (next.Turn now turn)) told
    → made ≡ option_map (after_turn now turn end gives) taken
    → handed ≡ option_map (after_hands gives) made
    → end ≢ turn_end.Done
    → MatchOption told (handed ≡ None) (λ before. IfSome handed (IsAfter (round_end.Stopped end) before))
stopped None taken made handed now turn end gives p q r other =
    r ∙ ap (option_map (after_hands gives)) (q ∙ ap (option_map (after_turn now turn end gives)) p)
stopped (Some before) taken made handed now turn end gives p q r other =
    let P : Option Record → Type 0 = λ t. IfSome t (IsAfter (round_end.Stopped end) before) in
    subst P (sym (r ∙ ap (option_map (after_hands gives)) (q ∙ ap (option_map (after_turn now turn end gives)) p))) (
      other,
      (
        now,
        turn,
        gives,
        hands_all gives (Some (next.Turn now turn))
            (record { now = now; turn = turn; made = Some (record { now = now; turn = turn; end = end; gives = gives }); handed = [] }) before.rounds,
      ),
    )
