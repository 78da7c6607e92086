-- The two limits of a run or of a domain test, as they are read. They stand in a file of their own, since a must-fail edit mends them.
use mathlib.Core.Path.{◌≡◌, ap}
use Rattle.language.specs.Outcome.{Outcome, done}
use Rattle.language.proofs.Outcome.{after, done-injective}
use Rattle.value.specs.declared.Value.{Value}
use Rattle.value.specs.Decimal.{floor_of, ceiling_of}
use Rattle.language.specs.Evaluation.{Limits, limits_of}

-- two limits that are read are the rounded values of their formulas
pub record Read (o q : Outcome Value) (l : Limits) : Type 0 where
  pub low : Value
  pub high : Value
  pub low-done : o ≡ done low
  pub low-is : ceiling_of low ≡ l.lower
  pub high-done : q ≡ done high
  pub high_is : floor_of high ≡ l.upper

pub limits-read : (o q : Outcome Value) (l : Limits) → limits_of o q ≡ done l → Read o q l
unfolding limits_of
limits-read o q l e =
    after o _ l e λ v ov e.
    after q _ l e λ w qw e.
    let same : record { lower = ceiling_of v; upper = floor_of w } ≡ l = done-injective e in
    record {
      low = v;
      high = w;
      low-done = ov;
      low-is = ap (λ (x : Limits). x.lower) same;
      high-done = qw;
      high_is = ap (λ (x : Limits). x.upper) same;
    }
