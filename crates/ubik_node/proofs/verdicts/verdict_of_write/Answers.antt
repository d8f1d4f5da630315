use Rattle.std.proofs.Common.{◌≡◌, ◌≢◌, ◌<◌, ◌≤◌, ℕ, true, false, eqb, List, [], ◌∷◌, Some, None, length, refl, sym, ap, subst, eq-eqb, ne_eqb, ◌∙◌, arith}
use Rattle.std.proofs.lemmas.Bool.Decides.{nat_tests}
use Rattle.ubik_types.specs.declared.images.Change.{Change}
use Rattle.ubik_types.specs.Image.{effect}
use Rattle.ubik_types.specs.Logged.{logged, too_large}
use Rattle.db_image.specs.Database.{changes_of}
use Rattle.db_image.proofs.Laid.{changes_lead}
use Rattle.ubik_store.specs.Gaps.{CutsNoPut}
use Rattle.server_state.specs.State.{server_of}
use Rattle.state_laws.specs.Over.{over}
use Rattle.state_laws.proofs.LikeChanges.{like_changes}
use Rattle.ubik_node.proofs.Committing.{changes_nothing, commits, too_many}
use Rattle.ubik_node.proofs.Gapless.{kept_between, uncut_between}
use Rattle.state_laws.proofs.Fitting.{image_within}
use Rattle.ubik_node.proofs.verdicts.verdict_of_write.Goals as goal

emptied : (xs : List Change) → eqb (length xs) 0 ≡ true → xs ≡ []
emptied [] none = refl
emptied (x ∷ xs) none = let no : length (x ∷ xs) ≡ 0 = grind (arith, nat_tests) in absurd (omega (arith, no))

filled : (n : ℕ) → eqb n 0 ≡ false → 0 < n
filled n some = grind (arith, nat_tests)

pub returns-else-state-eq-MAX_COUNTER-clause-judged : goal.returns-else-state-eq-MAX_COUNTER-clause-judged
returns-else-state-eq-MAX_COUNTER-clause-judged g c = λ old image as_long grows made m now id call.
    let db = g.V.DraftService.standing.database in
    let same : changes_of db old image ≡ c.args.changes = sym made in
    let fits : too_large 0 (length old) c.args.changes ≡ None = rw (c.requires.len, sym as_long) at (sym c.too_large.ensures ∙ c.in_default.is) in
    let apart : c.args.state.now.version.counter ≢ 2147483647 = c.if-state-eq-MAX_COUNTER.false in
    let empty : eqb (length c.as_slice.result.now) 0 ≡ false = sym c.is_empty.ensures ∙ c.if-is_empty.false in
    let some : 0 < length c.args.changes = filled _ (ap (λ (x : List Change). eqb (length x) 0) (sym c.as_slice.ensures) ∙ empty) in (
      record {
        leads = ap (effect old) (sym same) ∙ changes_lead db.head db.block old image (λ none. (omega (arith, none, c.requires.block))) grows;
        kept = subst (λ (x : List Change). logged (length old) x ≡ x) same (kept_between old image grows db.head db.block);
        within = fits;
        fits = image_within db.head db.block old image c.requires.block (omega (arith, as_long, c.args.state.now.image_fits)) (ap (λ (x : List Change). too_large 0 (length old) x) same ∙ fits);
        puts = subst CutsNoPut same (uncut_between old image db.head db.block);
      },
      commits db m (over (server_of c.args.state.now) old) now id call c.args.answer image c.args.changes same fits some ∙ rw (ne_eqb _ _ apart) refl,
    )

pub returns-then-state-eq-MAX_COUNTER-clause-judged : goal.returns-then-state-eq-MAX_COUNTER-clause-judged
returns-then-state-eq-MAX_COUNTER-clause-judged g c = λ old image as_long grows made m now id call.
    let db = g.V.DraftService.standing.database in
    let same : changes_of db old image ≡ c.args.changes = sym made in
    let fits : too_large 0 (length old) c.args.changes ≡ None = rw (c.requires.len, sym as_long) at (sym c.too_large.ensures ∙ c.in_default.is) in
    let empty : eqb (length c.as_slice.result.now) 0 ≡ false = sym c.is_empty.ensures ∙ c.if-is_empty.false in
    let some : 0 < length c.args.changes = filled _ (ap (λ (x : List Change). eqb (length x) 0) (sym c.as_slice.ensures) ∙ empty) in
    let last : c.args.state.now.version.counter ≡ 2147483647 = c.if-state-eq-MAX_COUNTER.true in
    commits db m (over (server_of c.args.state.now) old) now id call c.args.answer image c.args.changes same fits some ∙ rw (eq-eqb _ _ last) refl

-- where the image is not told: over that from which the changes lead
pub returns-else-state-eq-MAX_COUNTER-clause-some : goal.returns-else-state-eq-MAX_COUNTER-clause-some
returns-else-state-eq-MAX_COUNTER-clause-some g c = λ m now id call.
    let lead = c.requires.lead.1 in
    let longer : length lead.old ≤ length lead.new = omega (arith, lead.before, lead.after, lead.longer) in
    (lead.old, lead.new, lead.before, longer, returns-else-state-eq-MAX_COUNTER-clause-judged g c lead.old lead.new lead.before longer lead.between m now id call)

pub returns-then-state-eq-MAX_COUNTER-clause-some : goal.returns-then-state-eq-MAX_COUNTER-clause-some
returns-then-state-eq-MAX_COUNTER-clause-some g c = λ m now id call.
    let lead = c.requires.lead.1 in
    let longer : length lead.old ≤ length lead.new = omega (arith, lead.before, lead.after, lead.longer) in
    (lead.old, lead.new, lead.before, longer, returns-then-state-eq-MAX_COUNTER-clause-judged g c lead.old lead.new lead.before longer lead.between m now id call)

-- a reply to none, or to too many, would be one over each image as long
pub returns-then-is_empty-clause-some : goal.returns-then-is_empty-clause-some
returns-then-is_empty-clause-some g c = λ m now id call old same.
    let lead = c.requires.lead.1 in
    let db = g.V.DraftService.standing.database in
    let like = like_changes db.head db.block lead.old lead.new old (same ∙ sym lead.before) in
    let none : c.args.changes ≡ [] = emptied c.args.changes (ap (λ (x : List Change). eqb (length x) 0) (sym c.as_slice.ensures) ∙ sym c.is_empty.ensures ∙ c.if-is_empty.true) in
    (like.image, omega (arith, same, lead.after, lead.longer, like.len), changes_nothing db m (over (server_of c.args.state.now) old) now id call c.args.answer like.image (like.none (sym lead.between ∙ none)))

pub returns-in-Some-clause-some : goal.returns-in-Some-clause-some
returns-in-Some-clause-some g c = λ m now id call old same.
    let lead = c.requires.lead.1 in
    let db = g.V.DraftService.standing.database in
    let like = like_changes db.head db.block lead.old lead.new old (same ∙ sym lead.before) in
    let large : too_large 0 (length old) c.args.changes ≡ Some c.in-Some.bytes = rw (c.requires.len, sym same) at (sym c.too_large.ensures ∙ c.in-Some.is) in
    (like.image, omega (arith, same, lead.after, lead.longer, like.len), too_many db m (over (server_of c.args.state.now) old) now id call c.args.answer like.image c.in-Some.bytes (like.large 0 (length old) ∙ ap (too_large 0 (length old)) (sym lead.between) ∙ large))

pub returns-else-state-eq-MAX_COUNTER-clause-can : goal.returns-else-state-eq-MAX_COUNTER-clause-can
returns-else-state-eq-MAX_COUNTER-clause-can g c =
    let apart : c.args.state.now.version.counter ≢ 2147483647 = c.if-state-eq-MAX_COUNTER.false in (
      omega (arith, c.args.state.now.counter_fits, apart),
      rw c.requires.len at (sym c.too_large.ensures ∙ c.in_default.is),
      c.requires.answer,
      c.requires.puts,
    )
