-- The account of a day: what the rules answer to a question about it.
use Rattle.std.specs.Prelude.{ℕ, Option}
use Rattle.std.specs.Option.{option_map}
use Rattle.rules.specs.Figures as law
use Rattle.rules.specs.History.{History, Setting}
use Rattle.sheet.specs.declared.account.Account.{Account}
use Rattle.estimators.specs.Meaning.{IsBounded, IsBoundedUnder}

-- the account of a day with this load
abbrev pub account : Setting → History → ℕ → ℕ → Account
account s h day load = record {
  load = load;
  supplied = law.supplied_sum s h day;
  generated = law.generated_sum s h day;
  remainder = law.remainder s h day load;
  excess = law.excess s h day load;
  missing = law.missing_count s h day;
}

-- a day without a load has no account
abbrev pub day_account : Setting → History → ℕ → Option Account
day_account s h day = option_map (account s h day) (law.load s h day)

-- every figure that the estimator of a setting has had or can have is within its limit
abbrev pub HasBoundedEstimates : Setting → Type 0
HasBoundedEstimates s = IsBounded s.opening × IsBoundedUnder s.weather
