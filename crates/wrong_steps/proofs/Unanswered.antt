-- A call whose rule makes no change is not answered `ok`, though its core may make it.
pub no_answer : {A : Type 0} → A × ⊥ → ⊥
no_answer may = may.1
