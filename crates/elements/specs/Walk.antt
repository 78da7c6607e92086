-- What the iterator over a domain gives: the element at which it stands, and after it the next; or the refusal, which is the last.
use Rattle.std.specs.Prelude.{Bool, true, false, Err, None, Ok, Option, Result, Some, ◌≡◌, ℕ, suc}
use Rattle.rules.specs.declared.Refused.{Refused}
use Rattle.evaluator.specs.declared.Context.{Context}
use Rattle.evaluator.specs.Context.{Over}
use Rattle.elements.specs.declared.here.Here.{Here}
use Rattle.elements.specs.declared.walk.Walk.{Walk}
use Rattle.elements.specs.Held.{held, rank}
use Rattle.elements.specs.Steps.{NextIs}

-- what is to come, from where the walk stands and whether that was given
abbrev pub Comes : Context → Bool → Result (Option Here) Refused → Result (Option Here) Refused → Type 0
Comes c false y x = x ≡ y
Comes c true (Ok (Some h)) x = Over NextIs c.stored c.level h x
Comes c true (Ok None) x = x ≡ Ok None
Comes c true (Err e) x = x ≡ Ok None

abbrev pub ToCome : Walk → Result (Option Here) Refused → Type 0
ToCome w = Comes w.cx w.given w.step

-- what a call gives of what is to come
abbrev pub item_of : Result (Option Here) Refused → Option (Result Here Refused)
item_of (Ok (Some h)) = Some (Ok h)
item_of (Ok None) = None
item_of (Err e) = Some (Err e)

pub record Gives (s : Walk) (r : Option (Result Here Refused)) (t : Walk) : Type 0 where
  pub same : t.cx ≡ s.cx
  pub comes : Comes s.cx s.given s.step t.step
  pub given : t.given ≡ true
  pub gives : r ≡ item_of t.step

-- no more items come than these
abbrev pub items_left : Bool → Result (Option Here) Refused → ℕ
items_left false (Ok (Some h)) = suc (suc (rank (held h)))
items_left false (Ok None) = 0
items_left false (Err e) = 1
items_left true (Ok (Some h)) = suc (rank (held h))
items_left true (Ok None) = 0
items_left true (Err e) = 0
