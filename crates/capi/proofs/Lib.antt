pub mod CallLaws
pub mod RewriteCopies
pub mod Outcomes
pub mod EdgesOfTheCalls
