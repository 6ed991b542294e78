pub mod RuleMenus
pub mod FirstLinks
pub mod RuleFiles
pub mod CodeFiles
pub mod Replies
pub mod Explanations
