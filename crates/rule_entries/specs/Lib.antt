pub mod RuleEntries
