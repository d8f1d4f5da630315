use Rattle.std.proofs.Common.{◌≡◌, ℕ, ◌+◌, ◌-◌, ◌≤◌, Bool, true, List, length, not, ◌&&◌, take, drop, sym, ap, ◌∙◌, arith}
use Rattle.std.specs.Str.{bytes_eq}
use Rattle.std.proofs.lemmas.List.{length-drop, take_all}
use Rattle.prdb_layout.specs.Registry.{is_text}
use Rattle.pt_service.specs.Names.{system}
use Rattle.pt_service.proofs.GroupNames.{with_colon, without_colon}
use Rattle.pt_service.proofs.names.is_group_name.Goals as goal

pub returns-then-is_text : goal.returns-then-is_text
returns-then-is_text c =
    let name = c.args.name.now in
    let at = c.in-Some.at in
    let form = with_colon c.args.name.now c.in-Some.at (sym c.colon.ensures ∙ c.in-Some.is) (omega arith) in
    let first : is_text (take c.in-Some.at c.args.name.now) ≡ true = grind (arith, c.is_text.ensures, c.if-is_text.true) in
    let len : length (drop (c.in-Some.at + 1) c.args.name.now) ≤ length c.args.name.now - (c.in-Some.at + 1) = omega
    (arith, length-drop (c.in-Some.at + 1) c.args.name.now) in
    c.is_text-then-is_text.ensures ∙ ap (λ (t : List ℕ). is_text t) (take_all (length name - (at + 1)) (drop (at + 1) name) len)
    ∙ sym (form ∙ ap (λ (b : Bool). b && is_text (drop (at + 1) name)) first)

pub returns-then-is_text-2 : goal.returns-then-is_text-2
returns-then-is_text-2 c =
    let name = c.args.name.now in
    let form = without_colon c.args.name.now (sym c.colon.ensures ∙ c.in-None.is) (omega arith) in
    ap not c.is_system.ensures
    ∙ sym (form ∙ ap (λ (b : Bool). b && not (bytes_eq name system)) (sym c.is_text-in-None.ensures ∙ c.if-is_text-2.true))
