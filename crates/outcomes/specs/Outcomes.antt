-- No second outcome meets a contract: the three forms of a uniqueness theorem.
-- Assumes nothing. `Post` is a function's postcondition as the checker reads it: of the lifetimes k of what is lent, the arguments, the answer, and what is lent as it is left.
use Rattle.std.specs.Prelude.{◌≡◌}

-- two outcomes of one call that both meet the contract have the same answer
abbrev pub OneAnswer : {K : Type 0} {A R S : K → Type 0} → ((k : K) → A k → R k → S k → Type 0) → Type 0
OneAnswer {K} {A} {R} {S} Post = (k : K) (a : A k) (r r' : R k) (s s' : S k) → Post k a r s → Post k a r' s' → r ≡ r'

-- they leave the same; `left` says in what
abbrev pub OneLeft : {K : Type 0} {A R S X : K → Type 0} → ((k : K) → A k → R k → S k → Type 0) → ((k : K) → S k → X k) → Type 0
OneLeft {K} {A} {R} {S} Post left = (k : K) (a : A k) (r r' : R k) (s s' : S k) → Post k a r s → Post k a r' s' → left k s ≡ left k s'

-- both: the answer, and what is left
abbrev pub OneOutcome : {K : Type 0} {A R S X : K → Type 0} → ((k : K) → A k → R k → S k → Type 0) → ((k : K) → S k → X k) → Type 0
OneOutcome {K} {A} {R} {S} Post left = (k : K) (a : A k) (r r' : R k) (s s' : S k) → Post k a r s → Post k a r' s' → (r ≡ r') × (left k s ≡ left k s')
