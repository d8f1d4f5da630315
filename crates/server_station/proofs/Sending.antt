-- What goes out of one list of outputs and then of another.
use Rattle.std.proofs.Common.{◌≡◌, List, [], ◌∷◌, ◌++◌, refl, ap, sym, ◌∙◌, append_assoc, append-nil}
use Rattle.cell_model.specs.declared.events.Output.{Output}
use Rattle.server_rounds.specs.declared.sendings.Sending.{Sending}
use Rattle.server_station.specs.declared.askers.Asker.{Asker}
use Rattle.server_station.specs.Frames.{sent_of, left_by, frames_of, askers_after, IsCut}

pub askers-append : (askers : List Asker) (xs ys : List Output) → askers_after askers (xs ++ ys) ≡ askers_after (askers_after askers xs) ys
askers-append askers [] ys = refl
askers-append askers (x ∷ xs) ys = askers-append (left_by askers x) xs ys

pub frames-append : (askers : List Asker) (xs ys : List Output) → frames_of askers (xs ++ ys) ≡ frames_of askers xs
    ++ frames_of (askers_after askers xs) ys
frames-append askers [] ys = refl
frames-append askers (x ∷ xs) ys =
    ap (λ (rest : List Sending). sent_of askers x ++ rest) (frames-append (left_by askers x) xs ys)
    ∙ sym (append_assoc (sent_of askers x) (frames_of (left_by askers x) xs) (frames_of (askers_after (left_by askers x) xs) ys))

-- one output more
pub frames_more : (askers : List Asker) (xs : List Output) (x : Output) → frames_of askers (xs ++ x ∷ []) ≡ frames_of askers xs
    ++ sent_of (askers_after askers xs) x
frames_more askers xs x =
    frames-append askers xs (x ∷ [])
    ∙ ap (λ (rest : List Sending). frames_of askers xs ++ rest) (append-nil (sent_of (askers_after askers xs) x))

pub askers_more : (askers : List Asker) (xs : List Output) (x : Output)
    → askers_after askers (xs ++ x ∷ []) ≡ left_by (askers_after askers xs) x
askers_more askers xs x = askers-append askers xs (x ∷ [])

-- What went out is what goes out of the first outputs, those that wait are those after them, and the rest is left.
abbrev pub Sent : (askers : List Asker) → (all : List Output) → (sent : List Sending) → (waiting : List Asker) → (rest : List Output)
    → Type 0
Sent askers all sent waiting rest =
    (first : List Output) × (all ≡ first ++ rest) × (sent ≡ frames_of askers first) × (waiting ≡ askers_after askers first)

pub sent_more : (askers waiting left : List Asker) (all rest others : List Output) (o : Output) (sent more : List Sending)
    → Sent askers all sent waiting rest → rest ≡ o ∷ others → more ≡ sent ++ sent_of waiting o → left ≡ left_by waiting o
    → Sent askers all more left others
sent_more askers waiting left all rest others o sent more s is goes stays = (
  s.0 ++ o ∷ [],
  s.1 ∙ ap (λ (r : List Output). s.0 ++ r) is ∙ sym (append_assoc s.0 (o ∷ []) others),
  goes ∙ ap (λ (x : List Sending). x ++ sent_of waiting o) s.2
      ∙ ap (λ (w : List Asker). frames_of askers s.0 ++ sent_of w o) s.3 ∙ sym (frames_more askers s.0 o),
  stays ∙ ap (λ (w : List Asker). left_by w o) s.3 ∙ sym (askers_more askers s.0 o),
)

whole : (first all : List Output) → all ≡ first ++ [] → all ≡ first
whole first all is = is ∙ append-nil first

pub sent_all : (askers left : List Asker) (all : List Output) (sent : List Sending) → Sent askers all sent left []
    → (sent ≡ frames_of askers all) × (left ≡ askers_after askers all)
sent_all askers left all sent s = (
  s.2 ∙ sym (ap (frames_of askers) (whole s.0 all s.1)),
  s.3 ∙ sym (ap (askers_after askers) (whole s.0 all s.1)),
)

pub sent_cut : (askers left : List Asker) (all rest : List Output) (sent : List Sending) → Sent askers all sent left rest
    → IsCut askers all sent left
sent_cut askers left all rest sent s = record { first = s.0; rest = rest; outputs_are = s.1; sent_is = s.2; left_is = s.3 }
