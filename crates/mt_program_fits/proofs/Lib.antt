mod Accepted
mod Client
mod Listed
mod Products
mod Programs
mod Server
