-- Definitions that no contract of a public function cites.
pub mod Growth
pub mod Reach
pub mod RuleLines
