use Rattle.std.proofs.Common.{◌≡◌, ℕ, List, [], ◌∷◌, ◌++◌, take, replicate, ◌∙◌, arith, ◌<◌}
use Rattle.std.proofs.lemmas.List.{append_assoc, take-replicate}
use Rattle.xdr_base.specs.Spelling.{padding}
use Rattle.xdr_base.proofs.writers.XdrWriter.put_bytes.Goals as goal

abbrev three : List ℕ
three = 0 ∷ 0 ∷ 0 ∷ []

zeros : (n : ℕ) (pad : ℕ) → n ≡ pad → pad < 4 → take n three ≡ replicate pad 0
zeros n pad e lt = rw e (take-replicate {X = ℕ} pad 3 0 (omega arith))

-- one part after the other
joined : (old held a b c w word v z fill : List ℕ) → held ≡ old → a ≡ held ++ w → w ≡ word → b ≡ a ++ v → c ≡ b ++ z → z ≡ fill → c ≡ old ++ ((word ++ v) ++ fill)
joined old held a b c w word v z fill h p s q r e = rw (r, q, p, s, h, e) (simp append_assoc)

pub returns-clause-ok : goal.returns-clause-ok
returns-clause-ok c =
    let z = zeros c.padding.result (padding _) c.padding.ensures.value (omega arith) in
    joined _ _ _ _ _ _ _ _ _ _ (c.in_ok-reserve.ensures.items ∙ c.self.view_is) c.in_ok-extend_from_slice.ensures.items c.to_be_bytes.ensures c.in_ok-extend_from_slice-2.ensures.items c.in_ok-extend_from_slice-3.ensures.items z
