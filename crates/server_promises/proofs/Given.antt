-- The replies of the database that a server puts out are those that the run has of it.
use Rattle.std.proofs.Common.{◌≡◌, ◌⊎◌, inl, inr, ℕ, List, [], ◌∷◌, ◌++◌, refl}
use Rattle.std.proofs.lemmas.List.Elements.{All-head, All-tail}
use Rattle.std.specs.List.{AllByRecursion}
use Rattle.std.specs.Prelude.{Option, Some, None, All, filter_map}
use Rattle.ubik_calls.specs.declared.replies.Reply.{Reply}
use Rattle.ubik_calls.specs.declared.replies.Reply.TheVariants as reply
use Rattle.db_image.specs.Database.{Database}
use Rattle.cell_model.specs.declared.events.Output.{Output}
use Rattle.cell_model.specs.declared.events.Output.TheVariants as output
use Rattle.cell_model.specs.Book.{Announcement, Book, Given, Run, announced, given, given_with, order_of}
use Rattle.cell_model.specs.Step.{Evaluation, Shown}
use Rattle.cell_model.specs.World.{Event, Happening, Sent, Announced, Replied, Lost, Stops, Halts, Restarts, Stays_down, number_after, packet_of, seen_from, seen_of_output}
use Rattle.cell_orders.specs.Asked.{AnswersAsk}
use Rattle.cell_orders.specs.Replies.{HasEvaluation, IsSingleReply}
use Rattle.journal_model.specs.Schedules.{output_in}
use Rattle.server_promises.specs.Promises.{IsSingleAnswer, IsSinglePut}

-- one of these replies is this one, under its id, of server k
abbrev pub IsGivenIn : List Given → ℕ → ℕ → Reply → Type 0
IsGivenIn [] k id r = ⊥
IsGivenIn (g ∷ list) k id r = ((g.server ≡ k) × (g.id ≡ id) × (g.reply ≡ r)) ⊎ IsGivenIn list k id r

-- what server k puts out is one of them, if it is an Ok or a Rule
abbrev pub IsPut : List Given → ℕ → Output → Type 0
IsPut list k (output.Reply id (reply.Ok fields)) = IsGivenIn list k id (reply.Ok fields)
IsPut list k (output.Reply id (reply.Rule number)) = IsGivenIn list k id (reply.Rule number)
IsPut list k _ = Unit {0}

abbrev pub AllPut : List Given → ℕ → List Output → Type 0
AllPut list k outputs = AllByRecursion (IsPut list k) outputs

-- ---- more replies

abbrev pub HasAll : List Given → List Given → Type 0
HasAll list later = (k id : ℕ) (r : Reply) → IsGivenIn list k id r → IsGivenIn later k id r

with_more : (ann : List Announcement) (server id : ℕ) (r : Reply) (evaluation : Option Evaluation) (before : List Given)
    → HasAll before (given_with ann server id r evaluation before)
with_more ann server id r None before k other answer is = is
with_more ann server id r (Some e) before k other answer is = inr is

pub given_more : (book : Book) (seen : List Happening) (ann : List Announcement) (before : List Given) → HasAll before (given book seen ann before)
given_more book [] ann before k id r is = is
given_more book (Announced server version ∷ seen) ann before k id r is =
    given_more book seen (announced book (Announced server version ∷ []) ann) before k id r is
given_more book (Replied server other answer evaluation ∷ seen) ann before k id r is =
    given_more book seen ann (given_with ann server other answer evaluation before) k id r
    (with_more ann server other answer evaluation before k id r is)
given_more book (Sent number packet ∷ seen) ann before k id r is = given_more book seen ann before k id r is
given_more book (Lost number ∷ seen) ann before k id r is = given_more book seen ann before k id r is
given_more book (Stops server ∷ seen) ann before k id r is = given_more book seen ann before k id r is
given_more book (Halts server ∷ seen) ann before k id r is = given_more book seen ann before k id r is
given_more book (Restarts server version ∷ seen) ann before k id r is = given_more book seen ann before k id r is
given_more book (Stays_down server ∷ seen) ann before k id r is = given_more book seen ann before k id r is

put_more : (list later : List Given) (k : ℕ) → HasAll list later → (o : Output) → IsPut list k o → IsPut later k o
put_more list later k more (output.Reply id (reply.Ok fields)) is = more k id (reply.Ok fields) is
put_more list later k more (output.Reply id (reply.Rule number)) is = more k id (reply.Rule number) is
put_more list later k more _ is = tt

pub all_more : (list later : List Given) (k : ℕ) → HasAll list later → (outputs : List Output) → AllPut list k outputs → AllPut later k outputs
all_more list later k more [] is = tt
all_more list later k more (o ∷ outputs) is = (put_more list later k more o is.0, all_more list later k more outputs is.1)

pub all_append : (list : List Given) (k : ℕ) (outputs later : List Output) → AllPut list k outputs → AllPut list k later
    → AllPut list k (outputs ++ later)
all_append list k [] later first second = second
all_append list k (o ∷ outputs) later first second = (first.0, all_append list k outputs later first.1 second)

-- ---- what is seen of a server

-- each reply among what is seen is of server k
abbrev pub AllAt : ℕ → List Happening → Type 0
AllAt k [] = Unit {0}
AllAt k (Replied server id r evaluation ∷ seen) = (server ≡ k) × AllAt k seen
AllAt k (_ ∷ seen) = AllAt k seen

silent_at : (k : ℕ) (marks : List Happening) → filter_map output_in marks ≡ [] → AllAt k marks
silent_at k [] silent = tt
silent_at k (Replied server id r evaluation ∷ marks) silent = absurd (cc)
silent_at k (Sent number packet ∷ marks) silent = absurd (cc)
silent_at k (Announced server version ∷ marks) silent = absurd (cc)
silent_at k (Lost number ∷ marks) silent = silent_at k marks silent
silent_at k (Stops server ∷ marks) silent = silent_at k marks silent
silent_at k (Halts server ∷ marks) silent = silent_at k marks silent
silent_at k (Restarts server version ∷ marks) silent = silent_at k marks silent
silent_at k (Stays_down server ∷ marks) silent = silent_at k marks silent

one_at : (k number : ℕ) (o : Output) (evaluation : Option Evaluation) (seen : List Happening) → AllAt k seen
    → AllAt k (seen_of_output k number o evaluation ∷ seen)
one_at k number (output.Send packet) evaluation seen rest = rest
one_at k number (output.Reply id r) evaluation seen rest = (refl, rest)
one_at k number (output.Announce version) evaluation seen rest = rest

pub all_at : (k number : ℕ) (shown : List Shown) (marks : List Happening) → filter_map output_in marks ≡ [] → AllAt k (seen_from k number shown ++ marks)
all_at k number [] marks silent = silent_at k marks silent
all_at k number (one ∷ shown) marks silent =
    one_at k number one.output one.evaluation (seen_from k (number_after number (packet_of one)) shown ++ marks)
    (all_at k (number_after number (packet_of one)) shown marks silent)

reply_put : (book : Book) (k id : ℕ) (r : Reply) (evaluation : Option Evaluation) (server : ℕ) (seen : List Happening) (ann : List Announcement)
    (before : List Given) → server ≡ k → HasEvaluation (Replied server id r evaluation)
    → IsPut (given book seen ann (given_with ann server id r evaluation before)) k (output.Reply id r)
reply_put book k id (reply.Ok fields) None server seen ann before same has = absurd has
reply_put book k id (reply.Ok fields) (Some e) server seen ann before same has =
    given_more book seen ann (given_with ann server id (reply.Ok fields) (Some e) before) k id (reply.Ok fields) (inl (same, refl, refl))
reply_put book k id (reply.Rule number) None server seen ann before same has = absurd has
reply_put book k id (reply.Rule number) (Some e) server seen ann before same has =
    given_more book seen ann (given_with ann server id (reply.Rule number) (Some e) before) k id (reply.Rule number) (inl (same, refl, refl))
reply_put book k id _ evaluation server seen ann before same has = tt

-- what is seen of server k in a step is among the replies behind it
pub seen_put : (book : Book) (k : ℕ) (seen : List Happening) (ann : List Announcement) (before : List Given) → AllAt k seen
    → All HasEvaluation seen → AllPut (given book seen ann before) k (filter_map output_in seen)
seen_put book k [] ann before at has = tt
seen_put book k (Replied server id r evaluation ∷ seen) ann before at has = (
  reply_put book k id r evaluation server seen ann before at.0 (All-head HasEvaluation (Replied server id r evaluation) seen has),
  seen_put book k seen ann (given_with ann server id r evaluation before) at.1
      (All-tail HasEvaluation (Replied server id r evaluation) seen has),
)
seen_put book k (Announced server version ∷ seen) ann before at has = (
  tt,
  seen_put book k seen (announced book (Announced server version ∷ []) ann) before at (All-tail HasEvaluation (Announced server version) seen has),
)
seen_put book k (Sent number packet ∷ seen) ann before at has =
    (tt, seen_put book k seen ann before at (All-tail HasEvaluation (Sent number packet) seen has))
seen_put book k (Lost number ∷ seen) ann before at has = seen_put book k seen ann before at (All-tail HasEvaluation (Lost number) seen has)
seen_put book k (Stops server ∷ seen) ann before at has = seen_put book k seen ann before at (All-tail HasEvaluation (Stops server) seen has)
seen_put book k (Halts server ∷ seen) ann before at has = seen_put book k seen ann before at (All-tail HasEvaluation (Halts server) seen has)
seen_put book k (Restarts server version ∷ seen) ann before at has =
    seen_put book k seen ann before at (All-tail HasEvaluation (Restarts server version) seen has)
seen_put book k (Stays_down server ∷ seen) ann before at has =
    seen_put book k seen ann before at (All-tail HasEvaluation (Stays_down server) seen has)

-- ---- replies are single

module _ (db : Database) (r : Run) (events : List Event) (k : ℕ) where
  single_answer : (list : List Given) (id : ℕ) (answer : Reply) → All (IsSingleReply db r.book (order_of r.announcements)) list
      → All (AnswersAsk events) list → IsGivenIn list k id answer → IsSingleAnswer db r events k id answer
  single_answer [] id answer single asked is = absurd is
  single_answer (g ∷ list) id answer single asked (inl same) = record {
    given = g;
    server = same.0;
    id_is = same.1;
    reply_is = same.2;
    single = All-head (IsSingleReply db r.book (order_of r.announcements)) g list single;
    asked = All-head (AnswersAsk events) g list asked;
  }
  single_answer (g ∷ list) id answer single asked (inr later) =
      single_answer list id answer (All-tail (IsSingleReply db r.book (order_of r.announcements)) g list single)
      (All-tail (AnswersAsk events) g list asked) later

  module _ (single : All (IsSingleReply db r.book (order_of r.announcements)) r.given) (asked : All (AnswersAsk events) r.given) where
    single_put : (o : Output) → IsPut r.given k o → IsSinglePut db r events k o
    single_put (output.Reply id (reply.Ok fields)) is = single_answer r.given id (reply.Ok fields) single asked is
    single_put (output.Reply id (reply.Rule number)) is = single_answer r.given id (reply.Rule number) single asked is
    single_put _ is = tt

    pub all_single : (outputs : List Output) → AllPut r.given k outputs → AllByRecursion (IsSinglePut db r events k) outputs
    all_single [] is = tt
    all_single (o ∷ outputs) is = (single_put o is.0, all_single outputs is.1)
