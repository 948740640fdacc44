-- The case of a book: how it was opened, what its lists hold beyond its places, and what it has accepted since.
use Rattle.std.specs.Prelude.{ℕ, List}
use Rattle.rules.specs.History.{History, Setting}
use Rattle.rules.specs.declared.call.Call.{Call}
use Rattle.book.specs.Replies.{history_after_call, history_after_calls}

-- what the sheet and the interval list hold beyond the book's places
pub record Beyond : Type 0 where
  pub sheet : List ℕ
  pub intervals : List ℕ

pub record Case : Type 0 where
  -- the opening, and what the estimator means at it and under each degree-day count
  pub setting : Setting
  pub rest : Beyond
  -- the accepted entries, the newest first
  pub history : History

-- the case after a call, and after a list of calls
abbrev pub case_after_call : Case → Call → Case
case_after_call c call = record c { history = history_after_call c.setting c.history call }

abbrev pub case_after_calls : Case → List Call → Case
case_after_calls c calls = record c { history = history_after_calls c.setting c.history calls }
