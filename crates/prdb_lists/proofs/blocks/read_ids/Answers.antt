use Rattle.std.proofs.Common.{◌≡◌, ℤ, ◌+◌, ◌*◌, Bool, true, false, List, [], ◌∷◌, ◌++◌, sym, ap, subst, ◌∙◌, append_assoc, rules}
use Rattle.std.specs.Prelude.{FitsSigned, ◌<ℤ◌}
use Rattle.std.specs.Int.{w32, cast_signed, cast_unsigned}
use Rattle.std.specs.List.{All}
use Rattle.std.proofs.lemmas.Int.{to_z-of_z}
use Rattle.prdb_layout.specs.Records.{signed_at}
use Rattle.prdb_lists.specs.Blocks.{ids_in}
use Rattle.prdb_lists.proofs.BlockIds.{ids_more}
use Rattle.prdb_lists.proofs.ListRead.{not_ascending}
use Rattle.prdb_lists.proofs.blocks.read_ids.Goals as goal

pub returns-then-not-is_below-clause-not : goal.returns-then-not-is_below-clause-not
returns-then-not-is_below-clause-not c = λ same rises.
    let all = not_ascending c.args.block.now c.args.ids.now c.args.at c.loop-i.i c.args.count c.loop-i-test.true rises in
    let fits : FitsSigned w32 c.signed_at-id.result = search rules in
    let id : cast_signed w32 (cast_unsigned w32 c.signed_at-id.result) ≡ signed_at c.args.block.now (c.args.at + 4 * c.loop-i.i) =
    to_z-of_z w32 c.signed_at-id.result fits ∙ c.signed_at-id.ensures in
    let here : All (λ x. x <ℤ cast_signed w32 (cast_unsigned w32 c.signed_at-id.result)) c.loop-i.ids =
    subst (λ (l : List ℤ). All (λ x. x <ℤ cast_signed w32 (cast_unsigned w32 c.signed_at-id.result)) l) (sym c.loop-i.invariant)
    (subst (λ (v : ℤ). All (λ x. x <ℤ v) (c.args.ids.now ++ ids_in c.args.block.now c.args.at c.loop-i.i)) (sym id) all) in
    let yes : ◌≡◌ {A = Bool} false true = c.if-not-is_below.ensures.1 here in
    absurd cc

pub loop-i-preserved : goal.loop-i-preserved
loop-i-preserved c =
    let fits : FitsSigned w32 c.signed_at-id.result = search rules in
    let raw = c.in_ok-push.ensures.pushed in
    let pushed : c.push.new.self ≡ c.loop-i.ids ++ c.signed_at-id.result ∷ [] = simp to_z-of_z at raw in
    pushed ∙ ap (λ (l : List ℤ). l ++ c.signed_at-id.result ∷ []) c.loop-i.invariant
    ∙ append_assoc c.args.ids.now (ids_in c.args.block.now c.args.at c.loop-i.i) (c.signed_at-id.result ∷ [])
    ∙ ap (λ (v : ℤ). c.args.ids.now ++ (ids_in c.args.block.now c.args.at c.loop-i.i ++ v ∷ [])) c.signed_at-id.ensures
    ∙ ap (λ (l : List ℤ). c.args.ids.now ++ l) (sym (ids_more c.args.block.now c.args.at c.loop-i.i))
