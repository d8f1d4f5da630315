use Rattle.std.proofs.Common.{inl, inr, refl, arith}
use Rattle.vldb_chains.proofs.laws.law_other_sorts.Goals as goal

pub returns-clause-names : goal.returns-clause-names
returns-clause-names c = λ name id. record {
  head = refl;
  next = inl (omega arith);
  places = inl (omega arith);
  first = inl (omega arith);
  second = inl (omega arith);
}

pub returns-clause-ids : goal.returns-clause-ids
returns-clause-ids c = λ name id. record {
  head = refl;
  next = inr (omega arith);
  places = inr (omega arith);
  first = inl (omega arith);
  second = inl (omega arith);
}

pub returns-clause-free_names : goal.returns-clause-free_names
returns-clause-free_names c = λ name. record {
  head = refl;
  next = inl (omega arith);
  places = inl (omega arith);
  first = inl (omega arith);
  second = inl (omega arith);
}

pub returns-clause-free_ids : goal.returns-clause-free_ids
returns-clause-free_ids c = λ id. record {
  head = refl;
  next = inl (omega arith);
  places = inl (omega arith);
  first = inl (omega arith);
  second = inl (omega arith);
}
