-- What was made of a call over a draft is of an outcome that may come.
use Rattle.std.proofs.Common.{◌≡◌, ◌≢◌, ◌≤◌, ◌∙◌, ℕ, true, List, Option, Some, None, IfSome, length, refl, ap, subst, arith}
use Rattle.std.specs.Prelude.{IsSomeAnd}
use Rattle.db_image.specs.declared.services.CallReply.{CallReply}
use Rattle.db_image.specs.declared.services.CallReply.TheVariants as reply
use Rattle.db_image.specs.declared.draft_services.CallEnd.{CallEnd}
use Rattle.db_image.specs.Blocks.{changes_between}
use Rattle.db_image.specs.Database.{Outcome}
use Rattle.db_image.specs.Ends.{EndsBy, IsShort, KeepsGrammar, end_of}
use Rattle.db_image.specs.Standing.{Standing}
use Rattle.ubik_node.specs.declared.evaluations.Evaluation.{Evaluation}
use Rattle.ubik_node.specs.Evaluation.{IsMadeOf, IsMadeOver}

-- an end by a reply is an end by an outcome with that reply
ended_by : (o : Outcome) (r : CallReply) (image : List ℕ) → EndsBy o (end_of r) (Some image) → (end_of r ≡ end_of o.reply) × (Some image ≡ Some o.image)
ended_by o (reply.Done fields) image is = is
ended_by o other image is = is

same_reply : (r q : CallReply) → end_of r ≡ end_of q → r ≡ q
same_reply (reply.Done a) (reply.Done b) is = cc
same_reply (reply.Rule a) (reply.Rule b) is = cc
same_reply reply.Malformed reply.Malformed is = refl
same_reply (reply.BadRecord a) (reply.BadRecord b) is = cc
same_reply r q is = absurd cc

same_image : (a b : List ℕ) → Some a ≡ Some b → a ≡ b
same_image a b is = cc

same_outcome : (o : Outcome) (r : CallReply) (image : List ℕ) → EndsBy o (end_of r) (Some image) → record { reply = r; image = image } ≡ o
same_outcome o r image is =
    let both = ended_by o r image is in
    let answers : CallReply → Outcome = λ x. record { reply = x; image = image } in
    let leaves : List ℕ → Outcome = λ x. record { reply = o.reply; image = x } in
    ap answers (same_reply r o.reply both.0) ∙ ap leaves (same_image image o.image both.1)

-- a draft over an image that is told, after a call that ended by this reply, and the changes that it gives
pub made_over : (d : Standing) (held began later after : Option (List ℕ)) (len grown head block now : ℕ) (call : List ℕ) (ended : CallEnd) (e : Evaluation) → ended ≡ end_of e.reply
    → began ≡ held → later ≡ held → head ≡ d.database.head → block ≡ d.database.block
    → IfSome began (λ bytes. (s : d.State) → d.StandsFor bytes s → EndsBy (d.database.call bytes now call) ended after)
    → KeepsGrammar (d.database.writes call) ended → (d.database.writes call ≢ Some true → after ≡ began) → IsShort ended → len ≤ grown
    → IfSome held (λ bytes. length bytes ≡ len) → IfSome later (λ old. IsSomeAnd after (λ new. length new ≡ grown))
    → IfSome later (λ old. IfSome after (λ new. e.changes ≡ changes_between head block old new)) → IsMadeOf d held now call e
made_over d None began later after len grown head block now call ended e is first still heads blocks meant grammar rests short longer size told changes = tt
made_over d (Some image) began later after len grown head block now call ended e is first still heads blocks meant grammar rests short longer size told changes =
    by after
    (subst (λ (o : Option (List ℕ)). IfSome o (λ bytes. (s : d.State) → d.StandsFor bytes s → EndsBy (d.database.call bytes now call) (end_of e.reply) after)) first
    (subst (λ (x : CallEnd). IfSome began (λ bytes. (s : d.State) → d.StandsFor bytes s → EndsBy (d.database.call bytes now call) x after)) is meant))
    (λ reads. rests reads ∙ first)
    (subst (λ (o : Option (List ℕ)). IfSome o (λ old. IsSomeAnd after (λ new. length new ≡ grown))) still told)
    (subst (λ (o : Option (List ℕ)). IfSome o (λ old. IfSome after (λ new. e.changes ≡ changes_between head block old new))) still changes)
  where
    by : (after : Option (List ℕ)) → ((s : d.State) → d.StandsFor image s → EndsBy (d.database.call image now call) (end_of e.reply) after)
        → (d.database.writes call ≢ Some true → after ≡ Some image) → IsSomeAnd after (λ new. length new ≡ grown)
        → IfSome after (λ new. e.changes ≡ changes_between head block image new) → IsMadeOver d now call e image
    by None meant rests told changes = absurd told
    by (Some new) meant rests told changes = record {
      outcome = record { reply = e.reply; image = new };
      may = record {
        meant = λ s stands. same_outcome (d.database.call image now call) e.reply new (meant s stands);
        grammar = subst (λ (x : CallEnd). KeepsGrammar (d.database.writes call) x) is grammar;
        rests = λ reads. same_image new image (rests reads);
        short = subst IsShort is short;
        longer = omega (arith, longer, size, told);
      };
      is = record {
        reply = refl;
        changes = changes ∙ ap (λ (h : ℕ). changes_between h block image new) heads ∙ ap (λ (b : ℕ). changes_between d.database.head b image new) blocks;
      };
    }
