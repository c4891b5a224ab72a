-- When a contract settles what a call leaves. Document 01: "Uniqueness is shown by proving that any two outcomes allowed are equal".
-- A contract is taken as the checker reads it off the source, so that no restatement stands between.
use Rattle.std.specs.Prelude.{◌≡◌, List, ℕ}
use contract.Lifetimes.{Lfts}
use denote.Triple.Clauses.{Lasts, at_exit}
use borrow.Fn.Kinds.{ParamKind, ResultKind, Dens, res_t, Out, ended_of}

-- Any two that a claim allows are equal.
abbrev pub Unique : {O : Type 0} → (O → Type 0) → Type 0
Unique {O} allowed = (x y : O) → allowed x → allowed y → x ≡ y

module _ {n : ℕ} (ps : List (ParamKind n)) (r : ResultKind n) (ensures : Out n ps r) where
  -- What a call leaves: its result, and the last value behind each `&mut`.
  abbrev pub Outcome : (κs : Lfts n) → Dens κs ps → Type 0
  Outcome κs args = (res_t r κs).Denot × Lasts (ended_of n ps r) κs args

  -- An outcome that the contract allows.
  abbrev pub Allowed : (κs : Lfts n) (args : Dens κs ps) → Outcome κs args → Type 0
  Allowed κs args o = ensures κs args o.0 (at_exit (ended_of n ps r) κs args o.1)

  -- A contract settles what a call leaves, on all arguments.
  abbrev pub Settles : Type 0
  Settles = (κs : Lfts n) (args : Dens κs ps) → Unique (Allowed κs args)
