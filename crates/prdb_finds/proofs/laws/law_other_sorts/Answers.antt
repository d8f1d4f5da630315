use Rattle.std.proofs.Common.{inl, inr, refl, arith}
use Rattle.prdb_finds.proofs.laws.law_other_sorts.Goals as goal

pub returns-clause-names : goal.returns-clause-names
returns-clause-names c = λ name id. record {
  head = refl;
  next = inl (omega arith);
  places = inl (omega arith);
  first = inl (omega arith);
  second = inl (omega arith);
}

pub returns-clause-ids : goal.returns-clause-ids
returns-clause-ids c = λ name id. record {
  head = refl;
  next = inr (omega arith);
  places = inr (omega arith);
  first = inl (omega arith);
  second = inl (omega arith);
}

pub returns-clause-named : goal.returns-clause-named
returns-clause-named c = λ name k. record {
  head = refl;
  next = inl (omega arith);
  places = inl (omega arith);
  first = inl (omega arith);
  second = inr (k, 108, refl, omega arith, omega arith, inr (omega arith));
}

pub returns-clause-known : goal.returns-clause-known
returns-clause-known c = λ id k. record {
  head = refl;
  next = inl (omega arith);
  places = inl (omega arith);
  first = inl (omega arith);
  second = inr (k, 108, refl, omega arith, omega arith, inr (omega arith));
}

pub returns-clause-owned_names : goal.returns-clause-owned_names
returns-clause-owned_names c = λ name k. record {
  head = refl;
  next = inr (omega arith);
  places = inr (omega arith);
  first = inr (k, 108, refl, omega arith, omega arith, inr (omega arith));
  second = inl (omega arith);
}

pub returns-clause-owned_ids : goal.returns-clause-owned_ids
returns-clause-owned_ids c = λ id k. record {
  head = refl;
  next = inr (omega arith);
  places = inr (omega arith);
  first = inr (k, 108, refl, omega arith, omega arith, inr (omega arith));
  second = inl (omega arith);
}

pub returns-clause-free : goal.returns-clause-free
returns-clause-free c = record {
  links = record { head = omega arith; step = omega arith; mark = omega arith; within = omega arith };
  first = omega arith;
  count = omega arith;
  apart = inr (omega arith);
  mark = omega arith;
}

pub returns-clause-taken : goal.returns-clause-taken
returns-clause-taken c = λ next from fits. record {
  links = record { head = omega arith; step = omega arith; mark = omega arith; within = omega arith };
  head = refl;
  mark = λ same. absurd (omega (arith, same));
}
