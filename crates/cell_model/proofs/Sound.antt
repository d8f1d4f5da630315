-- What holds of each step of each rule: its durable calls lead to the version and the image of the server after it, and each
-- reply that it shows has its cause.
use Rattle.std.proofs.Common.{◌≡◌, ℕ, ◌+◌, ◌==◌, Bool, true, false, cond, zero-add, List, [], ◌∷◌, ◌++◌, drop, map, refl, sym, ap, subst, ◌∙◌}
use Rattle.std.proofs.lemmas.List.{drop-drop}
use Rattle.std.proofs.lemmas.List.Sums.{sum_by-cons}
use Rattle.std.specs.Prelude.{count_by}
use Rattle.ubik_types.specs.declared.hosts.Host.{Host}
use Rattle.ubik_calls.specs.declared.packets.Body.{Body}
use Rattle.db_image.specs.Database.{Database}
use Rattle.cell_model.specs.declared.events.Output.{Output}
use Rattle.cell_model.specs.declared.events.Output.TheVariants as output
use Rattle.cell_model.specs.Causes.{IsCaused}
use Rattle.cell_model.specs.Durable.{Durable, Made, durable, durable_after, durable_after_all}
use Rattle.cell_model.specs.Node.{Server}
use Rattle.cell_model.specs.Step.{Member, Shown, Stepped, showing, followed, packet_to, sent, sends_from, sends_to_each, is_reply, short_after}

-- the choices behind an output
abbrev pub choices_behind : Output → List Bool → List Bool
choices_behind (output.Send packet) short = short
choices_behind (output.Reply id r) short = drop 1 short
choices_behind (output.Announce version) short = short

abbrev pub IsCausedOutput : Database → ℕ → (ℕ → List ℕ → Type 0) → List Bool → Output → Type 0
IsCausedOutput db now Stands short (output.Send packet) = Unit {0}
IsCausedOutput db now Stands short (output.Reply id r) = IsCaused db now Stands short id r
IsCausedOutput db now Stands short (output.Announce version) = Unit {0}

abbrev pub AreCaused : Database → ℕ → (ℕ → List ℕ → Type 0) → List Bool → List Shown → Type 0
AreCaused db now Stands short [] = Unit {0}
AreCaused db now Stands short (one ∷ shown) =
    IsCausedOutput db now Stands short one.output × AreCaused db now Stands (choices_behind one.output short) shown

-- of a step from a durable state; `Stands`: which calls it may answer under which id
pub record IsSound (db : Database) (now : ℕ) (Stands : ℕ → List ℕ → Type 0) (short : List Bool) (d : Durable) (t : Stepped) : Type 0 where
  pub leads : durable_after_all d t.calls ≡ durable t.server.version t.server.image
  pub caused : AreCaused db now Stands short t.shown

-- the durable state of a server that is up
abbrev pub state_of : Server → Durable
state_of s = durable s.version s.image

behind_output : (o : Output) (n : ℕ) (short : List Bool) → drop (cond (is_reply o) 1 0 + n) short ≡ drop n (choices_behind o short)
behind_output (output.Send packet) n short = ap (λ (k : ℕ). drop k short) (zero-add n)
behind_output (output.Reply id r) n short = sym (drop-drop n 1 short)
behind_output (output.Announce version) n short = ap (λ (k : ℕ). drop k short) (zero-add n)

short_after-cons : (one : Shown) (shown : List Shown) (short : List Bool) → short_after (one ∷ shown) short ≡ short_after shown (choices_behind one.output short)
short_after-cons one shown short =
    ap (λ (k : ℕ). drop k short) (sum_by-cons (λ (one : Shown). cond (is_reply one.output) 1 0) one shown)
    ∙ behind_output one.output (count_by (λ (one : Shown). is_reply one.output) shown) short

durable_after_all-append : (d : Durable) (calls more : List Made) → durable_after_all d (calls ++ more) ≡ durable_after_all (durable_after_all d calls) more
durable_after_all-append d [] more = refl
durable_after_all-append d (made ∷ calls) more = durable_after_all-append (durable_after d made.call) calls more

module _ (db : Database) (now : ℕ) (Stands : ℕ → List ℕ → Type 0) where
  pub caused_append : (short : List Bool) (shown more : List Shown) → AreCaused db now Stands short shown → AreCaused db now Stands (short_after shown short) more → AreCaused db now Stands short (shown ++ more)
  caused_append short [] more all rest = rest
  caused_append short (one ∷ shown) more all rest =
      let P : List Bool → Type 0 = λ choices. AreCaused db now Stands choices more in
      (all.0, caused_append (choices_behind one.output short) shown more all.1 (subst P (short_after-cons one shown short) rest))

  -- packets alone
  sent_caused : (m : Member) (host : Host) (bodies : List Body) (short : List Bool) → AreCaused db now Stands short (map (λ (body : Body). sent (packet_to m host body)) bodies)
  sent_caused m host [] short = tt
  sent_caused m host (body ∷ bodies) short = (tt, sent_caused m host bodies short)

  caused_if : (short : List Bool) (b : Bool) (x y : List Shown) → AreCaused db now Stands short x → AreCaused db now Stands short y → AreCaused db now Stands short (cond b x y)
  caused_if short true x y first second = first
  caused_if short false x y first second = second

  sends_from_caused : (m : Member) (k : ℕ) (hosts : List Host) (bodies : ℕ → List Body) (short : List Bool) → AreCaused db now Stands short (sends_from m k hosts bodies)
  sends_from_caused m k [] bodies short = tt
  sends_from_caused m k (host ∷ hosts) bodies short =
      caused_append short (cond (k == m.me) [] (map (λ (body : Body). sent (packet_to m host body)) (bodies k))) (sends_from m (k + 1) hosts bodies)
      (caused_if short (k == m.me) [] _ tt (sent_caused m host (bodies k) short))
      (sends_from_caused m (k + 1) hosts bodies _)

  pub sends_caused : (m : Member) (bodies : ℕ → List Body) (short : List Bool) → AreCaused db now Stands short (sends_to_each m bodies)
  sends_caused m bodies short = sends_from_caused m 0 m.hosts bodies short

  -- ---- how steps are made of steps

  -- either of two steps
  pub either : {short : List Bool} {d : Durable} {x y : Stepped} (b : Bool) → IsSound db now Stands short d x → IsSound db now Stands short d y → IsSound db now Stands short d (cond b x y)
  either true first second = first
  either false first second = second

  -- a step that changes nothing that is durable
  pub shows : (short : List Bool) (s : Server) (shown : List Shown) → AreCaused db now Stands short shown → IsSound db now Stands short (state_of s) (showing s shown)
  shows short s shown all = record { leads = refl; caused = all }

  pub follows : {short : List Bool} {d : Durable} (t : Stepped) (next : Server → Stepped) → IsSound db now Stands short d t → IsSound db now Stands (short_after t.shown short) (state_of t.server) (next t.server) → IsSound db now Stands short d (followed t next)
  follows {short} {d} t next first second =
      record {
        leads =
            durable_after_all-append d t.calls (next t.server).calls
            ∙ ap (λ (after : Durable). durable_after_all after (next t.server).calls) first.leads
            ∙ second.leads;
        caused = caused_append short t.shown (next t.server).shown first.caused second.caused;
      }
